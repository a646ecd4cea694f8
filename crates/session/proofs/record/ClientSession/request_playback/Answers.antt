-- `ClientSession::request_playback` meets its contract: what `request_stream` comes to.
-- Assumes nothing.
use Rattle.std.proofs.Common.{refl}
use Rattle.session.specs.Step.{plan}
use Rattle.session.proofs.record.ClientSession.request_playback.Goals as goal

pub returns : goal.returns
unfolding plan
returns c = c.request_stream-outcome.ensures _ refl
