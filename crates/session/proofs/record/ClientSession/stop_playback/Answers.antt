-- `ClientSession::stop_playback` meets its contract: a stop at its two stages.
-- Assumes nothing.
use Rattle.std.proofs.Common.{refl}
use Rattle.session.specs.Step.{plan}
use Rattle.session.proofs.record.ClientSession.stop_playback.Goals as goal

pub returns : goal.returns
unfolding plan
returns c = c.stopped-outcome.ensures _ _ c.is_play-own.ensures refl
