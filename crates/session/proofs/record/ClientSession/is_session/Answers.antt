-- `ClientSession::is_session` meets its contract: the settings' texts, their chunk size, then the requests.
-- Assumes nothing.
use native.Mathlib.Omega.{arith}
use Rattle.std.proofs.lemmas.Grind.{common_steps}
use Rattle.session.specs.Record.{is_session}
use Rattle.session.proofs.record.ClientSession.is_session.Goals as goal

pub returns-then-self-le2147483647 : goal.returns-then-self-le2147483647
unfolding is_session
returns-then-self-le2147483647 c = grind (arith, common_steps)

pub returns-else-self-le2147483647 : goal.returns-else-self-le2147483647
unfolding is_session
returns-else-self-le2147483647 c = grind (arith, common_steps)
