-- `ClientSession::media_outcome` meets its contract: refusals 13 and 9, then by its type.
-- Assumes nothing.
use Rattle.std.proofs.Common.{length, refl, arith, le-ltb, lt-ltb, eq-eqb, ne_eqb}
use Rattle.session.specs.Step.{plan}
use Rattle.session.proofs.StepLaws.{does_13, is-checked, does, order_hit, order_miss, order-end}
use Rattle.session.proofs.MessageLaws.{sound-is, picture-is}
use Rattle.session.proofs.record.ClientSession.media_outcome.Goals as goal

pub returns-in_err-checked : goal.returns-in_err-checked
returns-in_err-checked c = λ clock old. does_13 _ c.checked.ensures c.in_err-checked.was c.from_residual.ensures.1

pub returns-then-body-gt16777215 : goal.returns-then-body-gt16777215
unfolding plan
returns-then-body-gt16777215 c =
    λ clock old.
    does (is-checked _ c.checked.ensures c.in_ok-checked.was) (order_hit _ _ _ _ (lt-ltb 16777215 (length c.args.body.now) (omega arith)) refl)

pub returns-then-type_id-eq8 : goal.returns-then-type_id-eq8
unfolding plan
returns-then-type_id-eq8 c =
    let a = c.args in
    let h = le-ltb 16777215 (length a.body.now) (omega arith) in
    λ clock old.
    does (is-checked _ c.checked.ensures c.in_ok-checked.was)
    (order_miss _ _ _ _ h (order-end _ (sound-is clock _ a.type_id _ _ (eq-eqb _ _ c.if-type_id-eq8.true) (c.handle_media_data.ensures clock a.body.now old))))

pub returns : goal.returns
unfolding plan
returns c =
    let a = c.args in
    let h = le-ltb 16777215 (length a.body.now) (omega arith) in
    λ clock old.
    does (is-checked _ c.checked.ensures c.in_ok-checked.was)
    (order_miss _ _ _ _ h (order-end _ (picture-is clock _ a.type_id _ _ (ne_eqb _ _ c.if-type_id-eq8.false) (c.handle_media_data-2.ensures clock a.body.now old))))
