-- `ClientSession::handle_failed_result` meets its contract: by the request that was open.
-- Assumes nothing.
use Rattle.std.proofs.Common.{refl, ap}
use Rattle.session.specs.Record.{with_requests}
use Rattle.session.proofs.MessageLaws.{closed_after}
use Rattle.session.proofs.ReplyLaws.{error-unknown, error_known, rejected}
use Rattle.session.proofs.record.ClientSession.handle_failed_result.Goals as goal

pub returns-in_default : goal.returns-in_default
returns-in_default c = λ clock old. error-unknown clock _ c.args.command c.hold-number.ensures c.close.ensures c.in_default.is (rw c.unknown_reply.ensures)

pub returns-in-ConnectionRequested : goal.returns-in-ConnectionRequested
returns-in-ConnectionRequested c =
    λ clock old.
    error_known clock _ c.args.command c.hold-number.ensures c.close.ensures c.in-Some.is c.in-ConnectionRequested.is
    (λ e. rejected clock c.args.body.now c.args.command c.hold-number.result c.text_at-text.ensures e (rw c.raised.ensures))

pub returns-in-CreateStream : goal.returns-in-CreateStream
returns-in-CreateStream c =
    λ clock old.
    error_known clock _ c.args.command c.hold-number.ensures c.close.ensures c.in-Some.is c.in-CreateStream.is
    (λ e. closed_after (ap (with_requests c.args.self.now) e) refl)
