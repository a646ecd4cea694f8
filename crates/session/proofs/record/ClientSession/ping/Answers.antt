-- `ClientSession::ping` meets its contract: refusal 13, then by what writing the body answered.
-- Assumes nothing.
use Rattle.session.specs.Step.{plan}
use Rattle.session.proofs.StepLaws.{does_13, is-checked, does}
use Rattle.session.proofs.CallLaws.{ping_unsent, ping-sent}
use Rattle.session.proofs.record.ClientSession.ping.Goals as goal

pub returns-in_err-checked : goal.returns-in_err-checked
returns-in_err-checked c = does_13 _ c.checked.ensures c.in_err-checked.was c.from_residual.ensures.1

pub returns-in_err-len : goal.returns-in_err-len
unfolding plan
returns-in_err-len c = does (is-checked _ c.checked.ensures c.in_ok-checked.was) (ping_unsent _ c.write_ping_request.ensures c.in_err-len.was c.from_residual-in_err-len.ensures.1)

pub returns : goal.returns
unfolding plan
returns c = does (is-checked _ c.checked.ensures c.in_ok-checked.was) (ping-sent _ c.write_ping_request.ensures c.in_ok-len.was c.packet-request.ensures)
