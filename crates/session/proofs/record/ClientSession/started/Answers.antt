-- `ClientSession::started` meets its contract: the stage, then the event.
-- Assumes nothing.
use mathlib.Core.Bool.{not}
use mathlib.Core.Path.{ap}
use Rattle.std.proofs.Common.{refl}
use Rattle.session.proofs.StepLaws.{order_hit, order_miss, order-end, not-said}
use Rattle.session.proofs.MessageLaws.{raised-goes}
use Rattle.session.proofs.record.ClientSession.started.Goals as goal

pub returns-then-not-awaited : goal.returns-then-not-awaited
returns-then-not-awaited c = λ at old e. order_hit _ _ _ _ (not-said e (ap not c.if-not-awaited.true)) refl

pub returns : goal.returns
returns c = λ at old e. order_miss _ _ _ _ (not-said e (ap not c.if-not-awaited.false)) (order-end _ (raised-goes (rw c.raised.ensures)))
