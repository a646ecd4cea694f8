-- `ClientSession::connect` meets its contract: refusals 13, 1, 9, 11 and 10 in that order, then the connect.
-- Assumes nothing.
use mathlib.Core.Bool.{not}
use mathlib.Core.Path.{ap}
use Rattle.bodies.specs.Bodies.{connect_body}
use Rattle.requests.specs.Texts.{text_of}
use Rattle.std.specs.Prelude.{is_some}
use Rattle.session.specs.Record.{url_of}
use Rattle.session.specs.Step.{plan}
use Rattle.std.proofs.Common.{refl}
use Rattle.session.proofs.StepLaws.{does_13, is-checked, does, not-said, is_said, texts_of, sent_short, sent-done}
use Rattle.session.proofs.TakeLaws.{fits_16, asks-own, asks-long, asks-none, asks-given}
use Rattle.session.proofs.record.ClientSession.connect.Goals as goal

pub returns-in_err-checked : goal.returns-in_err-checked
returns-in_err-checked c = does_13 _ c.checked.ensures c.in_err-checked.was c.from_residual.ensures.1

pub returns-then-not-is_disconnected : goal.returns-then-not-is_disconnected
unfolding plan
returns-then-not-is_disconnected c = does (is-checked _ c.checked.ensures c.in_ok-checked.was) (asks-own _ _ _ _ _ (not-said c.is_disconnected.ensures (ap not c.if-not-is_disconnected.true)) refl)

pub returns-then-not-fits : goal.returns-then-not-fits
unfolding plan
returns-then-not-fits c = does (is-checked _ c.checked.ensures c.in_ok-checked.was) (asks-long _ _ _ _ _ (not-said c.is_disconnected.ensures (ap not c.if-not-is_disconnected.false)) (not-said c.fits.ensures (ap not c.if-not-fits.true)) refl)

pub connect-requires-clause-sound : goal.connect-requires-clause-sound
connect-requires-clause-sound c = texts_of _ (is-checked _ c.checked.ensures c.in_ok-checked.was)

pub connect-requires-clause-app_short : goal.connect-requires-clause-app_short
connect-requires-clause-app_short c = fits_16 _ (is_said c.fits.ensures (ap not c.if-not-fits.false))

pub returns-in_err-number : goal.returns-in_err-number
unfolding plan
returns-in_err-number c =
    does (is-checked _ c.checked.ensures c.in_ok-checked.was)
    (asks-none _ _ _ _ (not-said c.is_disconnected.ensures (ap not c.if-not-is_disconnected.false)) (not-said c.fits.ensures (ap not c.if-not-fits.false)) c.take.ensures _ c.in_err-number.was c.from_residual-in_err-number.ensures.1)

pub returns-in_err-len : goal.returns-in_err-len
unfolding plan
returns-in_err-len c =
    does (is-checked _ c.checked.ensures c.in_ok-checked.was)
    (asks-given _ _ _ _ (not-said c.is_disconnected.ensures (ap not c.if-not-is_disconnected.false)) (not-said c.fits.ensures (ap not c.if-not-fits.false)) c.take.ensures (λ n. connect_body n c.args.app.now (text_of c.args.self.now.config.flash_version) (is_some c.args.self.now.config.tc_url) (url_of c.args.self.now.config.tc_url)) c.in_ok-number.was
    (sent_short c.connect.ensures c.in_err-len.was c.from_residual-in_err-len.ensures.1))

pub returns : goal.returns
unfolding plan
returns c =
    does (is-checked _ c.checked.ensures c.in_ok-checked.was)
    (asks-given _ _ _ _ (not-said c.is_disconnected.ensures (ap not c.if-not-is_disconnected.false)) (not-said c.fits.ensures (ap not c.if-not-fits.false)) c.take.ensures (λ n. connect_body n c.args.app.now (text_of c.args.self.now.config.flash_version) (is_some c.args.self.now.config.tc_url) (url_of c.args.self.now.config.tc_url)) c.in_ok-number.was
    (sent-done c.connect.ensures c.in_ok-len.was c.sent.ensures))
