-- `ClientSession::if_active` meets its contract: on the active stream or not.
-- Assumes nothing.
use Rattle.std.proofs.Common.{refl}
use Rattle.session.proofs.MessageLaws.{on-active, on_other}
use Rattle.session.proofs.record.ClientSession.if_active.Goals as goal

pub returns-then-is_active : goal.returns-then-is_active
returns-then-is_active c = λ clock b old. on-active clock b _ _ c.is_active.ensures c.if-is_active.true (rw c.raised.ensures)

pub returns : goal.returns
returns c = λ clock b old. on_other clock b _ _ c.is_active.ensures c.if-is_active.false refl
