-- `ClientSession::count` meets its contract: refusal 13, then no window, a sum below it, a sum that reaches it. A sum below a window of 32 bits is its own low 32 bits.
-- Assumes nothing.
use Rattle.std.proofs.Common.{◌≡◌, ◌+◌, ◌%◌, ◌^◌, refl, arith}
use Rattle.session.specs.Step.{plan}
use Rattle.session.proofs.StepLaws.{does_13, is-checked, does, sent_short, sent-done}
use Rattle.session.proofs.CallLaws.{count-alone, count-below, count-reached}
use Rattle.session.proofs.record.ClientSession.count.Goals as goal

pub returns-in_err-checked : goal.returns-in_err-checked
returns-in_err-checked c = does_13 _ c.checked.ensures c.in_err-checked.was c.from_residual.ensures.1

pub returns-in_default : goal.returns-in_default
unfolding plan
returns-in_default c =
    does (is-checked _ c.checked.ensures c.in_ok-checked.was) (count-alone _ _ _ refl c.in_default.is refl)

pub returns-then-sum-size : goal.returns-then-sum-size
unfolding plan
returns-then-sum-size c =
    let s = c.args.self.now in
    let n = c.args.count in
    let low : (s.link.pending + n) % 2 ^ 32 ≡ s.link.pending + n = omega arith in
    does (is-checked _ c.checked.ensures c.in_ok-checked.was) (count-below _ _ _ refl _ c.in-Some.is (omega (arith, c.if-sum-size.true)) low refl)

pub returns-in_err-len : goal.returns-in_err-len
unfolding plan
returns-in_err-len c =
    does (is-checked _ c.checked.ensures c.in_ok-checked.was)
    (count-reached _ _ _ refl _ _ c.in-Some.is (omega (arith, c.if-sum-size.false)) refl (sent_short c.write_acknowledgement.ensures c.in_err-len.was c.from_residual-in_err-len.ensures.1))

pub returns : goal.returns
unfolding plan
returns c =
    does (is-checked _ c.checked.ensures c.in_ok-checked.was)
    (count-reached _ _ _ refl _ _ c.in-Some.is (omega (arith, c.if-sum-size.false)) refl (sent-done c.write_acknowledgement.ensures c.in_ok-len.was c.sent.ensures))
