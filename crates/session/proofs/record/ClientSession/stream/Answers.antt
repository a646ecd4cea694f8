-- `ClientSession::stream` meets its contract: refusals 13, 2 and 3, then the active stream.
-- Assumes nothing.
use mathlib.Core.Bool.{not}
use mathlib.Core.Path.{◌≡◌, refl, ap, ◌∙◌}
use Rattle.std.specs.Prelude.{Option, None, Some, ok_or}
use Rattle.messages.specs.declared.ids.StreamNumber.{StreamNumber}
use Rattle.session.specs.Comes.{active_of, stream_of}
use Rattle.session.specs.declared.errors.ClientSessionError.TheVariants.{NoKnownActiveStreamIdWhenRequired}
use Rattle.session.proofs.StepLaws.{err_is, is-checked, not-checked, is_said}
use Rattle.session.proofs.RecordLaws.{not-held}
use Rattle.session.proofs.record.ClientSession.stream.Goals as goal

pub returns-in_err-checked : goal.returns-in_err-checked
unfolding stream_of
returns-in_err-checked c =
    let k = not-checked c.args.self.now c.checked.ensures c.in_err-checked.was in
    let e = err_is c.from_residual.ensures.1 in
    rw (k.0, e, k.1)

pub returns-then-not-is_publishing : goal.returns-then-not-is_publishing
unfolding stream_of
returns-then-not-is_publishing c =
    let i = is-checked c.args.self.now c.checked.ensures c.in_ok-checked.was in
    rw (i, not-held c.is_publishing.ensures (ap not c.if-not-is_publishing.true))

active-is : (o : Option StreamNumber) → ok_or o NoKnownActiveStreamIdWhenRequired ≡ active_of o
active-is None = refl
active-is (Some x) = refl

pub returns : goal.returns
unfolding stream_of
returns c =
    let i = is-checked c.args.self.now c.checked.ensures c.in_ok-checked.was in
    c.ok_or.ensures.value ∙ rw (i, is_said c.is_publishing.ensures (ap not c.if-not-is_publishing.false)) (active-is c.args.self.now.progress.active)
