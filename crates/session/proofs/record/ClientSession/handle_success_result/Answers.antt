-- `ClientSession::handle_success_result` meets its contract: by the request that was open.
-- Assumes nothing.
use Rattle.session.proofs.ReplyLaws.{text-closed, result-unknown, result-known}
use Rattle.session.proofs.record.ClientSession.handle_success_result.Goals as goal

pub returns-in_default : goal.returns-in_default
returns-in_default c = λ b. result-unknown _ b c.args.command c.hold-number.ensures c.close.ensures c.in_default.is (rw c.unknown_reply.ensures)

pub granted-requires : goal.granted-requires
granted-requires c = text-closed c.args.self.now c.hold-number.result c.requires c.close.ensures c.in-Some.is

pub returns-in-ConnectionRequested : goal.returns-in-ConnectionRequested
returns-in-ConnectionRequested c = λ b. result-known _ b c.args.command c.hold-number.ensures c.close.ensures c.in-Some.is c.in-ConnectionRequested.is (c.accepted.ensures b c.hold-number.result)

pub returns-in-CreateStream : goal.returns-in-CreateStream
returns-in-CreateStream c = λ b. result-known _ b c.args.command c.hold-number.ensures c.close.ensures c.in-Some.is c.in-CreateStream.is (λ e. rw (← c.stream_number-stream.ensures) (c.granted.ensures b c.hold-number.result e))
