-- `ClientSession::handle_window_ack_size` meets its contract: the link with that window.
-- Assumes nothing.
use Rattle.std.proofs.Common.{refl}
use Rattle.session.proofs.StepLaws.{quiet-goes}
use Rattle.session.proofs.record.ClientSession.handle_window_ack_size.Goals as goal

pub returns : goal.returns
returns c = λ clock b old. quiet-goes refl
