-- `ClientSession::handle_user_control` meets its contract: event by event.
-- Assumes nothing.
use Rattle.std.proofs.Common.{refl}
use Rattle.session.proofs.StepLaws.{sent_short, sent-done, quiet-goes}
use Rattle.session.proofs.MessageLaws.{raised-goes, control-is, control_quiet}
use Rattle.session.proofs.record.ClientSession.handle_user_control.Goals as goal

pub returns-in_err-len-in-PingRequest : goal.returns-in_err-len-in-PingRequest
returns-in_err-len-in-PingRequest c =
    λ b. control-is _ b c.in-PingRequest.is (sent_short c.write_ping_response.ensures c.in_err-len-in-PingRequest.was c.from_residual.ensures.1)

pub returns-in_ok-len-in-PingRequest : goal.returns-in_ok-len-in-PingRequest
returns-in_ok-len-in-PingRequest c =
    λ b. control-is _ b c.in-PingRequest.is (sent-done c.write_ping_response.ensures c.in_ok-len-in-PingRequest.was c.sent.ensures)

pub returns-in-PingResponse : goal.returns-in-PingResponse
returns-in-PingResponse c = λ b. control-is _ b c.in-PingResponse.is (raised-goes (rw c.raised.ensures))

pub returns-in_default : goal.returns-in_default
returns-in_default c = λ b. control_quiet _ b _ c.in_default.not-PingRequest c.in_default.not-PingResponse (quiet-goes refl)
