-- `ClientSession::dispatched` meets its contract: message by message.
-- Assumes nothing.
use Rattle.std.proofs.Common.{refl}
use Rattle.session.specs.Message.{on_message}
use Rattle.session.proofs.MessageLaws.{raised-goes, unhandled-goes, unhandled-is, message-is}
use Rattle.session.proofs.record.ClientSession.dispatched.Goals as goal

pub returns-in-Unknown : goal.returns-in-Unknown
unfolding on_message
returns-in-Unknown c = unhandled-is _ _ _ _ _ c.in-Unknown.is (unhandled-goes refl)

pub returns-in-Acknowledgement : goal.returns-in-Acknowledgement
unfolding on_message
returns-in-Acknowledgement c = message-is _ _ _ _ _ c.in-Acknowledgement.is (raised-goes (rw c.raised.ensures))

pub returns-in-Amf0Command : goal.returns-in-Amf0Command
unfolding on_message
returns-in-Amf0Command c =
    message-is _ _ _ _ _ c.in-Amf0Command.is c.handle_amf0_command.ensures

pub returns-in-Amf0Data : goal.returns-in-Amf0Data
unfolding on_message
returns-in-Amf0Data c =
    message-is _ _ _ _ _ c.in-Amf0Data.is (c.handle_amf0_data.ensures c.args.clock c.args.out.now)

pub returns-in-AudioData : goal.returns-in-AudioData
unfolding on_message
returns-in-AudioData c =
    message-is _ _ _ _ _ c.in-AudioData.is (c.handle_media_data.ensures c.args.clock c.args.body.now c.args.out.now)

pub returns-in-VideoData : goal.returns-in-VideoData
unfolding on_message
returns-in-VideoData c =
    message-is _ _ _ _ _ c.in-VideoData.is (c.handle_media_data-in-VideoData.ensures c.args.clock c.args.body.now c.args.out.now)

pub returns-in-SetChunkSize : goal.returns-in-SetChunkSize
unfolding on_message
returns-in-SetChunkSize c =
    message-is _ _ _ _ _ c.in-SetChunkSize.is (c.handle_set_chunk_size.ensures c.args.clock c.args.body.now c.args.out.now)

pub returns-in-UserControl : goal.returns-in-UserControl
unfolding on_message
returns-in-UserControl c =
    message-is _ _ _ _ _ c.in-UserControl.is (c.handle_user_control.ensures c.args.body.now)

pub returns-in-WindowAcknowledgement : goal.returns-in-WindowAcknowledgement
unfolding on_message
returns-in-WindowAcknowledgement c =
    message-is _ _ _ _ _ c.in-WindowAcknowledgement.is (c.handle_window_ack_size.ensures c.args.clock c.args.body.now c.args.out.now)
