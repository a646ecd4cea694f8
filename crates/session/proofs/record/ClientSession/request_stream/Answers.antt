-- `ClientSession::request_stream` meets its contract: refusals 13, 2, 9, 11 and 10 in that order, then the createStream.
-- Assumes nothing.
use mathlib.Core.Bool.{not}
use mathlib.Core.Path.{ap}
use Rattle.bodies.specs.Bodies.{create_stream_body}
use Rattle.std.proofs.Common.{refl}
use Rattle.session.proofs.StepLaws.{does_13, is-checked, does_as, not-said, sent_short, sent-done}
use Rattle.session.proofs.TakeLaws.{asks-own, asks-long, asks-none, asks-given}
use Rattle.session.proofs.record.ClientSession.request_stream.Goals as goal

pub returns-in_err-checked : goal.returns-in_err-checked
returns-in_err-checked c = λ call p. does_13 _ c.checked.ensures c.in_err-checked.was c.from_residual.ensures.1

pub returns-then-not-is_connected : goal.returns-then-not-is_connected
returns-then-not-is_connected c =
    λ call p.
    does_as (is-checked _ c.checked.ensures c.in_ok-checked.was) p (asks-own _ _ _ _ _ (not-said c.is_connected.ensures (ap not c.if-not-is_connected.true)) refl)

pub returns-then-not-fits : goal.returns-then-not-fits
returns-then-not-fits c =
    λ call p.
    does_as (is-checked _ c.checked.ensures c.in_ok-checked.was) p (asks-long _ _ _ _ _ (not-said c.is_connected.ensures (ap not c.if-not-is_connected.false)) (not-said c.fits.ensures (ap not c.if-not-fits.true)) refl)

pub returns-in_err-number : goal.returns-in_err-number
returns-in_err-number c =
    λ call p.
    does_as (is-checked _ c.checked.ensures c.in_ok-checked.was) p
    (asks-none _ _ _ _ (not-said c.is_connected.ensures (ap not c.if-not-is_connected.false)) (not-said c.fits.ensures (ap not c.if-not-fits.false)) c.take.ensures _ c.in_err-number.was c.from_residual-in_err-number.ensures.1)

pub returns-in_err-len : goal.returns-in_err-len
returns-in_err-len c =
    λ call p.
    does_as (is-checked _ c.checked.ensures c.in_ok-checked.was) p
    (asks-given _ _ _ _ (not-said c.is_connected.ensures (ap not c.if-not-is_connected.false)) (not-said c.fits.ensures (ap not c.if-not-fits.false)) c.take.ensures create_stream_body c.in_ok-number.was
    (sent_short c.write_create_stream.ensures c.in_err-len.was c.from_residual-in_err-len.ensures.1))

pub returns : goal.returns
returns c =
    λ call p.
    does_as (is-checked _ c.checked.ensures c.in_ok-checked.was) p
    (asks-given _ _ _ _ (not-said c.is_connected.ensures (ap not c.if-not-is_connected.false)) (not-said c.fits.ensures (ap not c.if-not-fits.false)) c.take.ensures create_stream_body c.in_ok-number.was
    (sent-done c.write_create_stream.ensures c.in_ok-len.was c.sent.ensures))
