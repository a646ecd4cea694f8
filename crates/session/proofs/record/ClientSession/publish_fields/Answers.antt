-- `ClientSession::publish_fields` meets its contract: the stream, the encoder's text, then the message.
-- Assumes nothing.
use mathlib.Core.Bool.{not}
use mathlib.Core.Path.{ap}
use Rattle.std.proofs.Common.{refl}
use Rattle.session.specs.Step.{plan}
use Rattle.session.proofs.StepLaws.{not-said, is_said, order_miss, order-end, sent_short, sent-done}
use Rattle.session.proofs.CallLaws.{fits-short, on-stream, no-stream, not-given}
use Rattle.session.proofs.record.ClientSession.publish_fields.Goals as goal

pub returns-in_err-stream : goal.returns-in_err-stream
unfolding plan
returns-in_err-stream c = no-stream _ _ refl c.stream.ensures c.in_err-stream.was c.from_residual.ensures.1

pub returns-then-not-encoder_fits : goal.returns-then-not-encoder_fits
unfolding plan
returns-then-not-encoder_fits c = not-given _ _ refl c.stream.ensures c.in_ok-stream.was (not-said c.encoder_fits.ensures (ap not c.if-not-encoder_fits.true)) refl

pub write_metadata-requires : goal.write_metadata-requires
write_metadata-requires c = fits-short _ (is_said c.encoder_fits.ensures (ap not c.if-not-encoder_fits.false))

pub returns-in_err-len : goal.returns-in_err-len
unfolding plan
returns-in_err-len c =
    let short = not-said c.encoder_fits.ensures (ap not c.if-not-encoder_fits.false) in
    on-stream _ _ refl c.stream.ensures c.in_ok-stream.was
    (order_miss _ _ _ _ short (order-end _ (sent_short c.write_metadata.ensures c.in_err-len.was c.from_residual-in_err-len.ensures.1)))

pub returns : goal.returns
unfolding plan
returns c =
    let short = not-said c.encoder_fits.ensures (ap not c.if-not-encoder_fits.false) in
    on-stream _ _ refl c.stream.ensures c.in_ok-stream.was
    (order_miss _ _ _ _ short (order-end _ (sent-done c.write_metadata.ensures c.in_ok-len.was c.sent.ensures)))
