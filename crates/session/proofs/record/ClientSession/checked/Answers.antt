-- `ClientSession::checked` meets its contract: either test tells.
-- Assumes nothing.
use native.Mathlib.Omega.{arith}
use Rattle.std.proofs.lemmas.Grind.{common_steps}
use Rattle.session.specs.Comes.{checked}
use Rattle.session.proofs.record.ClientSession.checked.Goals as goal

pub returns : goal.returns
unfolding checked
returns c = grind (arith, common_steps)

pub returns-then-is_plain : goal.returns-then-is_plain
unfolding checked
returns-then-is_plain c = grind (arith, common_steps)
