-- The numbers of requests and the acknowledgement sum at one more line.
-- Assumes nothing.
use Prim.Native.Nat.{ℕ, ◌+◌, ◌%◌, ◌^◌}
use native.Mathlib.Omega.{arith}
use native.Mathlib.Nat.{add-mod-mod, mod-add-mod}
use mathlib.Core.Path.{◌≡◌, refl, sym, ap, ◌∙◌}
use mathlib.Core.Bool.{Bool, true, false, cond, not, ◌&&◌, ◌||◌}
use mathlib.Core.List.{List, [], ◌∷◌}
use Rattle.std.specs.Prelude.{Result, Ok, Err}
use Rattle.messages.specs.declared.ids.RtmpTimestamp.{RtmpTimestamp}
use Rattle.session.specs.Calls.{Call}
use Rattle.session.specs.Record.{fresh}
use Rattle.session.specs.Step.{step}
use Rattle.session.specs.declared.errors.ClientSessionError.{ClientSessionError}
use Rattle.session.specs.declared.config.ClientSessionConfig.{ClientSessionConfig}
use Rattle.session.specs.declared.record.ClientSession.{ClientSession}
use Rattle.session.specs.declared.result.Outcome.{Outcome}
use Rattle.session_laws.specs.Acknowledged.{sets_window, counts, since, is_set}
use Rattle.session_laws.specs.Refusals.{is_refused}
use Rattle.session_laws.specs.Lines.{Turn}
use Rattle.session_laws.specs.Lines as laws
use Rattle.session_laws.specs.Numbered.{asks, given}
use Rattle.session_laws.proofs.AcknowledgedLaws.{every_turn}
use Rattle.session_laws.proofs.NumberedLaws.{rises, sends-next}
use Rattle.journal.specs.Lines.{Journal}
use Rattle.journal.specs.Rule.{number_sent}
use Rattle.journal.specs.Trace.{away_by, line_of}
use Rattle.journal.specs.Beside.{passed, gave, given_in, acknowledged_in, window_in, counted_in, Acknowledged}
use Rattle.journal.proofs.StepLaws.{line_for, Sends}

-- ---- lines that were not turned away

passed_is : (o : Result Outcome ClientSessionError) → is_refused o ≡ not (passed (away_by o))
unfolding away_by
passed_is (Err e) = refl
passed_is (Ok o) = refl

-- ---- numbers

abbrev turn : RtmpTimestamp → Call → List ℕ → Turn
turn clock c old = record { clock = clock; call = c; lent = old }

not_cond : (p : Bool) (n : ℕ) → cond (not p) 0 n ≡ cond p n 0
not_cond true n = refl
not_cond false n = refl

module _ (s : ClientSession) (clock : RtmpTimestamp) (c : Call) (old : List ℕ) where
  gave-is : given (laws.line_of s (turn clock c old)) ≡ gave (line_for c (step s clock c old))
  unfolding line_of
  gave-is = rw (passed_is (step s clock c old).outcome) (not_cond (passed (away_by (step s clock c old).outcome)) (asks c))

  pub due-more : (j : Journal) → s.requests.next ≡ given_in j + 1
      → (step s clock c old).session.requests.next ≡ given_in (line_for c (step s clock c old) ∷ j) + 1
  unfolding given_in
  due-more j e = let q = rises s (turn clock c old) in let g = gave-is in omega arith

  pub sends-due : Sends s (line_for c (step s clock c old))
  unfolding line_of number_sent
  sends-due h = let w = sends-next s (turn clock c old) (gave-is ∙ h) in ap number_sent w.sent ∙ rw w.number

-- ---- bytes

-- what one line counts, and whether a window is set after it
count-is : (p set : Bool) (n : ℕ) → cond (not p) 0 (cond set n 0 + 0) ≡ cond (p && set) n 0
count-is true true n = omega arith
count-is true false n = refl
count-is false set n = refl

window_is : (p set sets : Bool) → cond (not p) set (set || sets) ≡ cond p (set || sets) set
window_is true set sets = refl
window_is false set sets = refl

sums-up : (m sent all pending before counted new : ℕ) → (sent + pending) % m ≡ (before + new) % m → (all + before) % m ≡ counted % m
    → (sent + all + pending) % m ≡ (counted + new) % m
sums-up m sent all pending before counted new e f =
    let p : sent + all + pending ≡ all + (sent + pending) = omega arith in
    let q : all + (before + new) ≡ (all + before) + new = omega arith in
    ap (λ x. x % m) p ∙ sym (add-mod-mod all (sent + pending) m) ∙ ap (λ x. (all + x) % m) e ∙ add-mod-mod all (before + new) m
    ∙ ap (λ x. x % m) q ∙ sym (mod-add-mod (all + before) m new) ∙ ap (λ x. (x + new) % m) f ∙ mod-add-mod counted m new

pub bytes-more : (s : ClientSession) (clock : RtmpTimestamp) (c : Call) (old : List ℕ) (j : Journal) → Acknowledged s j
    → Acknowledged (step s clock c old).session (line_for c (step s clock c old) ∷ j)
unfolding acknowledged_in window_in counted_in line_of since
bytes-more s clock c old j a =
    let o = every_turn s (turn clock c old) in
    let p = passed (away_by (step s clock c old).outcome) in
    let r = passed_is (step s clock c old).outcome in
    let n : cond (is_refused (step s clock c old).outcome) 0 (cond (is_set s.link.window) (counts c) 0 + 0) ≡ cond (p && window_in j) (counts c) 0 =
    rw (r, a.window) (count-is p (window_in j) (counts c)) in
    record {
      sums = sums-up (2 ^ 32) _ (acknowledged_in j) _ s.link.pending (counted_in j) _ (o.sums ∙ ap (λ n. (s.link.pending + n) % 2 ^ 32) n) a.sums;
      window = o.sets ∙ rw (r, a.window) (window_is p (window_in j) (sets_window c));
    }

pub bytes-first : (c : ClientSessionConfig) → Acknowledged (fresh c) []
unfolding acknowledged_in window_in counted_in fresh
bytes-first c = record { sums = refl; window = refl }
