-- `ClientSession::handle_on_status_command` meets its contract: code by code.
-- Assumes nothing.
use Rattle.std.proofs.Common.{refl, ap, ◌∙◌, Some}
use Rattle.session.specs.Message.{is_play_requested, is_publish_requested}
use Rattle.session.proofs.StepLaws.{away}
use Rattle.session.proofs.MessageLaws.{raised-goes, notice-is}
use Rattle.session.proofs.record.ClientSession.handle_on_status_command.Goals as goal

pub returns-in-PlayStart : goal.returns-in-PlayStart
returns-in-PlayStart c = λ clock old. notice-is clock c.args.body.now c.on_status_code.ensures (c.in-Some.is ∙ ap Some c.in-PlayStart.is) (c.started.ensures is_play_requested old c.is_play_requested-awaited.ensures)

pub returns-in-PublishStart : goal.returns-in-PublishStart
returns-in-PublishStart c = λ clock old. notice-is clock c.args.body.now c.on_status_code.ensures (c.in-Some.is ∙ ap Some c.in-PublishStart.is) (c.started-in-PublishStart.ensures is_publish_requested old c.is_publish_requested-awaited.ensures)

pub returns-in-Other : goal.returns-in-Other
returns-in-Other c = λ clock old. notice-is clock c.args.body.now c.on_status_code.ensures (c.in-Some.is ∙ ap Some c.in-Other.is) (raised-goes (rw c.raised.ensures))

pub returns-in_default : goal.returns-in_default
returns-in_default c = λ clock old. notice-is clock c.args.body.now c.on_status_code.ensures c.in_default.is (away refl)
