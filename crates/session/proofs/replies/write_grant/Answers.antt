-- `write_grant` meets its contract: a sound key is short enough to be sent; then by the purpose.
-- Assumes nothing.
use Rattle.session.proofs.RecordLaws.{sound-short}
use Rattle.session.proofs.ReplyLaws.{play-written, publish-written}
use Rattle.session.proofs.replies.write_grant.Goals as goal

pub write_play-requires : goal.write_play-requires
write_play-requires c = sound-short c.args.key.now c.requires c.as_slice.ensures

pub returns-in-PlayRequest : goal.returns-in-PlayRequest
returns-in-PlayRequest c =
    λ s clock b e. play-written s clock b _ _ c.in-PlayRequest.is e (rw c.as_slice.ensures at c.write_play.ensures)

pub write_publish-requires : goal.write_publish-requires
write_publish-requires c = sound-short c.args.key.now c.requires c.as_slice-in-PublishRequest.ensures

pub returns-in-PublishRequest : goal.returns-in-PublishRequest
returns-in-PublishRequest c =
    λ s clock b e. publish-written s clock b _ _ c.in-PublishRequest.is (rw c.as_slice-in-PublishRequest.ensures at c.write_publish.ensures)
