-- `ClientSession::publish_video_data` meets its contract: what `publish_data` finds for type 9, and the session as it was.
-- Assumes nothing.
use Rattle.std.proofs.Common.{refl}
use Rattle.session.specs.Step.{plan}
use Rattle.session.proofs.record.ClientSession.publish_video_data.Goals as goal

pub returns : goal.returns
unfolding plan
returns c = c.publish_data-outcome.ensures c.args.clock _ refl
