-- `ClientSession::received` meets its contract: refusals 13 and 9, then by what the body says.
-- Assumes nothing.
use Rattle.std.proofs.Common.{length, refl, sym, ap, ◌∙◌, arith, le-ltb, lt-ltb}
use Rattle.session.specs.Comes.{called}
use Rattle.session.specs.Message.{on_message}
use Rattle.session.specs.Step.{plan}
use Rattle.session.proofs.StepLaws.{err_is, does_13, is-checked, does, away, order_hit, order_miss, order-end}
use Rattle.session.proofs.MessageLaws.{read-is}
use Rattle.session.proofs.record.ClientSession.received.Goals as goal

pub returns-in_err-checked : goal.returns-in_err-checked
returns-in_err-checked c = does_13 _ c.checked.ensures c.in_err-checked.was c.from_residual.ensures.1

pub returns-then-body-gt16777215 : goal.returns-then-body-gt16777215
unfolding plan
returns-then-body-gt16777215 c = does (is-checked _ c.checked.ensures c.in_ok-checked.was) (order_hit _ _ _ _ (lt-ltb 16777215 (length c.args.body.now) (omega arith)) refl)

pub returns-in_err-message : goal.returns-in_err-message
unfolding plan on_message
returns-in_err-message c =
    let h = le-ltb 16777215 (length c.args.body.now) (omega arith) in
    does (is-checked _ c.checked.ensures c.in_ok-checked.was)
    (order_miss _ _ _ _ h (order-end _ (read-is _ _ _ _ _ (sym c.to_rtmp_message.ensures ∙ c.in_err-message.was) (away (ap (λ y. called y c.args.self.now) (err_is c.from_residual-in_err-message.ensures.1))))))

pub dispatched-requires : goal.dispatched-requires
dispatched-requires c = is-checked _ c.checked.ensures c.in_ok-checked.was

pub returns : goal.returns
unfolding plan
returns c =
    let h = le-ltb 16777215 (length c.args.body.now) (omega arith) in
    does (is-checked _ c.checked.ensures c.in_ok-checked.was) (order_miss _ _ _ _ h (order-end _ (read-is _ _ _ _ _ (sym c.to_rtmp_message.ensures ∙ c.in_ok-message.was) c.dispatched.ensures)))
