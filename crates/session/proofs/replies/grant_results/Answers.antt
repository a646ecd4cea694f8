-- `grant_results` meets its contract: by the purpose.
-- Assumes nothing.
use Rattle.session.proofs.ReplyLaws.{play-answered, publish-answered}
use Rattle.session.proofs.replies.grant_results.Goals as goal

pub returns-in-PlayRequest : goal.returns-in-PlayRequest
returns-in-PlayRequest c = λ s b key l. play-answered s _ b key _ c.in-PlayRequest.is l c.packet.ensures

pub returns-in-PublishRequest : goal.returns-in-PublishRequest
returns-in-PublishRequest c = λ s b key l. publish-answered s _ b key _ c.in-PublishRequest.is l c.sent.ensures
