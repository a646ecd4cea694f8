-- `ClientSession::publish_data` meets its contract: the stream, the length, then the message.
-- Assumes nothing.
use Rattle.std.proofs.Common.{length, refl, arith, le-ltb, lt-ltb}
use Rattle.session.proofs.StepLaws.{order_miss, order-end, sent_short, sent-done}
use Rattle.session.proofs.CallLaws.{on-stream, no-stream, not-given}
use Rattle.session.proofs.record.ClientSession.publish_data.Goals as goal

pub returns-in_err-stream : goal.returns-in_err-stream
returns-in_err-stream c = λ clock call p. no-stream _ _ p c.stream.ensures c.in_err-stream.was c.from_residual.ensures.1

pub returns-then-data-gt16777215 : goal.returns-then-data-gt16777215
returns-then-data-gt16777215 c =
    let b = c.args.«data».now in
    λ clock call p.
    not-given _ _ p c.stream.ensures c.in_ok-stream.was (lt-ltb 16777215 (length b) (omega arith)) refl

pub returns-in_err-len : goal.returns-in_err-len
returns-in_err-len c =
    let b = c.args.«data».now in
    let f = le-ltb 16777215 (length b) (omega (arith, c.if-data-gt16777215.false)) in
    λ clock call p.
    on-stream _ _ p c.stream.ensures c.in_ok-stream.was
    (order_miss _ _ _ _ f (order-end _ (sent_short c.write_bytes.ensures c.in_err-len.was c.from_residual-in_err-len.ensures.1)))

pub returns : goal.returns
returns c =
    let b = c.args.«data».now in
    let f = le-ltb 16777215 (length b) (omega (arith, c.if-data-gt16777215.false)) in
    λ clock call p.
    on-stream _ _ p c.stream.ensures c.in_ok-stream.was
    (order_miss _ _ _ _ f (order-end _ (sent-done c.write_bytes.ensures c.in_ok-len.was c.sent.ensures)))
