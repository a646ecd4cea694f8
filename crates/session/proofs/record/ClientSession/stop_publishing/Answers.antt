-- `ClientSession::stop_publishing` meets its contract: a stop at its two stages.
-- Assumes nothing.
use Rattle.std.proofs.Common.{refl}
use Rattle.session.specs.Step.{plan}
use Rattle.session.proofs.record.ClientSession.stop_publishing.Goals as goal

pub returns : goal.returns
unfolding plan
returns c = c.stopped-outcome.ensures _ _ c.is_publish-own.ensures refl
