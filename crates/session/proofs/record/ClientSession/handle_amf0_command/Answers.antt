-- `ClientSession::handle_amf0_command` meets its contract: by the name.
-- Assumes nothing.
use Rattle.session.proofs.MessageLaws.{raised-goes, command-is}
use Rattle.session.proofs.record.ClientSession.handle_amf0_command.Goals as goal

pub returns-in-OnStatus : goal.returns-in-OnStatus
returns-in-OnStatus c =
    command-is _ _ c.args.command c.in-OnStatus.is (c.handle_on_status_command.ensures c.args.clock c.args.out.now)

pub returns-in-Other : goal.returns-in-Other
returns-in-Other c = command-is _ _ c.args.command c.in-Other.is (raised-goes (rw c.raised.ensures))
