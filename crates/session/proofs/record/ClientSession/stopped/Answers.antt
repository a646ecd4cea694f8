-- `ClientSession::stopped` meets its contract: refusal 13, another stage, nothing to send without an active stream, else deleteStream on it.
-- Assumes nothing.
use mathlib.Core.Bool.{not}
use mathlib.Core.Path.{ap}
use Rattle.std.proofs.Common.{refl}
use borrow.Author.Tests.{not-false, not-true}
use Rattle.session.proofs.StepLaws.{does_13, is-checked, does_as, stop-here, stop-elsewhere, stopped_none, stopped-some, sent_short, sent-done}
use Rattle.session.proofs.record.ClientSession.stopped.Goals as goal
use Rattle.session.proofs.record.ClientSession.stopped.Goals.{in-None, in-Some+in_ok-len-in-Some}

pub returns-in_err-checked : goal.returns-in_err-checked
returns-in_err-checked c = λ call at e p. does_13 _ c.checked.ensures c.in_err-checked.was c.from_residual.ensures.1

pub returns-then-not-own : goal.returns-then-not-own
returns-then-not-own c = λ call at e p. does_as (is-checked _ c.checked.ensures c.in_ok-checked.was) p (stop-elsewhere _ _ e (not-true _ (ap not c.if-not-own.true)) refl)

pub returns-in_err-len-in-Some : goal.returns-in_err-len-in-Some
returns-in_err-len-in-Some c =
    λ call at e p.
    does_as (is-checked _ c.checked.ensures c.in_ok-checked.was) p
    (stop-here _ _ e (not-false _ (ap not c.if-not-own.false))
    (stopped-some c.args.clock c.in-Some.is (sent_short c.write_delete_stream.ensures c.in_err-len-in-Some.was c.from_residual-in_err-len-in-Some.ensures.1)))

pub returns : goal.returns
returns c =
    λ call at e p.
    does_as (is-checked _ c.checked.ensures c.in_ok-checked.was) p
    (stop-here _ _ e (not-false _ (ap not c.if-not-own.false))
    (elim c.match-self.branch [
      | in-None w ↦ rw (w.out-is, w.outcome-is) (stopped_none c.args.clock w.in-None.is refl)
      | in-Some+in_ok-len-in-Some w ↦ rw (w.out-is, w.outcome-is) (stopped-some c.args.clock w.in-Some.is (sent-done w.write_delete_stream.ensures w.in_ok-len-in-Some.was w.sent-outcome.ensures))
    ]))
