-- `borrowing::requested` meets its contract: each kind's call.
-- Assumes nothing.
use Rattle.borrowing.proofs.RequestLaws.{connect_does, play_does, publish-does}
use Rattle.borrowing.proofs.requested.Goals as goal

pub returns-in-ConnectionRequested : goal.returns-in-ConnectionRequested
returns-in-ConnectionRequested c = connect_does c.in-ConnectionRequested.is c.request_connection.ensures

pub returns-in-PlayRequest : goal.returns-in-PlayRequest
returns-in-PlayRequest c = play_does c.in-CreateStream.is c.in-PlayRequest.is c.request_playback.ensures

pub returns-in-PublishRequest : goal.returns-in-PublishRequest
returns-in-PublishRequest c = publish-does c.in-CreateStream.is c.in-PublishRequest.is c.request_publishing.ensures
