-- A call's line, read from what the call returned and left in the output, and the session after it.
-- Assumes nothing.
use Prim.Native.Nat.{ℕ}
use native.Mathlib.Omega.{arith}
use mathlib.Core.Path.{◌≡◌, refl, sym, ap, ◌∙◌, subst}
use mathlib.Core.Logic.{◌↔◌, ◌≢◌}
use mathlib.Core.Bool.{Bool, true, false, cond, not, true≢false}
use mathlib.Core.List.Memᴰ
use mathlib.Core.List.{List, []}
use lib.Dec.{eqb, ltb}
use lib.ListN.{length}
use borrow.Author.Tests.{eqb-true, eq-eqb, not-true}
use Rattle.std.specs.Prelude.{Ok, Option, Some, None}
use Rattle.messages.specs.declared.ids.RtmpTimestamp.{RtmpTimestamp}
use Rattle.messages.specs.declared.ids.StreamNumber.{StreamNumber}
use Rattle.requests.proofs.BoolLaws.{by_cases, and_left, and_right}
use Rattle.session.specs.Calls.{Call, connect, play, publish, stop_playback, stop_publishing, ping, picture, sound, metadata, bytes, message, Message, Results}
use Rattle.session.specs.Numbers.{refusal_number}
use Rattle.session.specs.Outcomes.{in_turn, sent_by, output, written, outcome_of}
use Rattle.session.specs.Plan.{Plan, refuse, close, go, in_order, is_publishing, if_large, published_on, published}
use Rattle.session.specs.Step.{plan, Stepped, away, fitted, step}
use Rattle.session.specs.declared.errors.ClientSessionError.{ClientSessionError}
use Rattle.session.specs.declared.errors.ClientSessionError.TheVariants.{SessionInInvalidState, Space}
use Rattle.session.specs.declared.record.ClientSession.{ClientSession}
use Rattle.session.specs.declared.state.ClientState.{ClientState}
use Rattle.session.specs.declared.state.ClientState.TheVariants.{Publishing}
use Rattle.session_laws.specs.Lines.{results_of, messages_in}
use Rattle.session_laws.specs.Sound.{Sound}
use Rattle.session_laws.proofs.DecideLaws.{is-publishing}
use Rattle.session_laws.proofs.SentLaws.{reads_back}
use Rattle.journal.specs.Lines.{Line}
use Rattle.journal.specs.Rule.{nothing, number_sent, said_well, closes_only, said_by, said}
use Rattle.journal.specs.Trace.{away_by, line_of}
use Rattle.journal.specs.Demand.{is_picture}
use Rattle.journal.specs.Beside.{gave}
use Rattle.journal.proofs.Good.{Moves, Carries, closing, spared, mild, Goes, Good, view_of, still}
use Rattle.journal.proofs.PlanGood.{good}

-- ---- the line and the session after it

-- neither by 3 nor by 13
abbrev pub spared_by : Option ℕ → Bool
spared_by None = true
spared_by (Some k) = spared k

pub record Steps (s : ClientSession) (l : Line) (after : ClientSession) : Type 0 where
  pub moves : Moves s (said l) after
  pub carries : Carries s (is_picture l.call) l.sent
  pub is_spared : spared_by l.turned_away ≡ true

abbrev pub line_for : Call → Stepped → Line
line_for c r = line_of c r.outcome r.output

-- a request line has the number that was due
abbrev pub Sends : ClientSession → Line → Type 0
Sends s l = gave l ≡ 1 → number_sent l.sent ≡ Some s.requests.next

-- what a turned-away line says
module _ (k : ℕ) (c : Call) where
  counts-for-nothing : closing k ≡ false → said_by (Some k) c [] ≡ nothing
  counts-for-nothing h = ap (λ b. cond b (closes_only (said_well c [])) nothing) h

  closes-only : closing k ≡ true → said_by (Some k) c [] ≡ closes_only (said_well c [])
  closes-only h = ap (λ b. cond b (closes_only (said_well c [])) nothing) h

closing_spared : (k : ℕ) → closing k ≡ true → spared k ≡ true
closing_spared k h = by_cases (eqb k 4) (λ e. rw (eqb-true k 4 e)) (λ e. let f : eqb k 5 ≡ true = rw e at h in rw (eqb-true k 5 f))

module _ (s : ClientSession) (c : Call) (old : List ℕ) where
  -- a refusal that keeps the session
  turned : (e : ClientSessionError) → mild (refusal_number e) ≡ true → Steps s (line_for c (away e s old)) s
  unfolding said line_of away_by results_of messages_in
  turned e m =
      let k = refusal_number e in
      record {
        moves =
            subst (λ w. Moves s w s) (sym (counts-for-nothing k c (not-true (closing k) (and_left (not (closing k)) (spared k) m)))) (still s s refl refl);
        carries = λ n i t. absurd (Memᴰ.not-nil i);
        is_spared = and_right (not (closing k)) (spared k) m;
      }

  line-done : (rs : Results) → line_of c (Ok (outcome_of rs)) (written old rs) ≡ record { call = c; turned_away = None; sent = sent_by (in_turn rs) }
  unfolding line_of away_by
  line-done rs = ap (λ ms. record { call = c; turned_away = None; sent = ms }) (reads_back old rs)

  done : (ms : List Message) (after : ClientSession) → Goes s (view_of c) ms after
      → Sends s (record { call = c; turned_away = None; sent = ms }) → Steps s (record { call = c; turned_away = None; sent = ms }) after
  unfolding said
  done ms after g n = record { moves = g.moves n; carries = g.carries; is_spared = refl }

  fitted-steps : (p : Plan) → Good s (view_of c) p → Sends s (line_for c (fitted s old p))
      → Steps s (line_for c (fitted s old p)) (fitted s old p).session
  unfolding fitted said line_of away_by results_of messages_in
  fitted-steps (refuse e) g n = turned e g
  fitted-steps (close e after) g n =
      record {
        moves = subst (λ w. Moves s w after) (sym (closes-only (refusal_number e) c g.by)) g.moves;
        carries = λ n i t. absurd (Memᴰ.not-nil i);
        is_spared = closing_spared (refusal_number e) g.by;
      }
  fitted-steps (go rs after) g n =
      by_cases (ltb (length old) (length (output rs)))
      (λ q. rw q (turned Space refl))
      (λ q.
      let m : Sends s (line_of c (Ok (outcome_of rs)) (written old rs)) = rw q at n in
      rw (q, line-done rs) (done (sent_by (in_turn rs)) after g (subst (Sends s) (line-done rs) m)))

  pub steps : (clock : RtmpTimestamp) → Sound s → Sends s (line_for c (step s clock c old))
      → Steps s (line_for c (step s clock c old)) (step s clock c old).session
  unfolding step
  steps clock h n = rw h.session (fitted-steps (plan s clock c) (good s clock c h) (rw h.session at n))

-- ---- a picture call and refusal 2

not-publishing : (g : ClientState) → is_publishing g ≡ false → g ≢ Publishing
not-publishing g e q = true≢false (sym (ap is_publishing q) ∙ e)

-- a plan that isn't refusal 2
abbrev NotTwo : Plan → Type 0
NotTwo (refuse e) = eqb (refusal_number e) 2 ≡ false
NotTwo (close e after) = eqb (refusal_number e) 2 ≡ false
NotTwo (go rs after) = Unit {0}

other_than-two : (k : ℕ) → eqb k 2 ≡ false → Some k ≢ Some 2
other_than-two k h e = let q : k ≡ 2 = cc in true≢false (sym (eq-eqb k 2 q) ∙ h)

refused-two : (s : ClientSession) (old : List ℕ) (g : ClientState) → away_by (fitted s old (refuse (SessionInInvalidState g))).outcome ≡ Some 2
unfolding fitted away_by
refused-two s old g = refl

on-stream-two : (s : ClientSession) (clock : RtmpTimestamp) (b : List ℕ) (f : StreamNumber → Message) (a : Option StreamNumber)
    → NotTwo (published_on s clock (if_large b) f a)
unfolding in_order
on-stream-two s clock b f None = refl
on-stream-two s clock b f (Some x) = by_cases (ltb 16777215 (length b)) (λ q. rw q) (λ q. rw q tt)

module _ (s : ClientSession) (old : List ℕ) where
  fitted-two : (p : Plan) → NotTwo p → away_by (fitted s old p).outcome ≢ Some 2
  unfolding fitted away_by
  fitted-two (refuse e) h = other_than-two (refusal_number e) h
  fitted-two (close e after) h = other_than-two (refusal_number e) h
  fitted-two (go rs after) h =
      by_cases (ltb (length old) (length (output rs))) (λ q. rw q (other_than-two 12 refl))
      (λ q. rw q (λ e. let z : ◌≡◌ {A = ℕ} 0 1 = cc in omega arith))

  published-two : (clock : RtmpTimestamp) (b : List ℕ) (f : StreamNumber → Message)
      → (away_by (fitted s old (published s clock (if_large b) f)).outcome ≡ Some 2) ↔ (s.progress.state ≢ Publishing)
  unfolding published in_order
  published-two clock b f =
      by_cases (is_publishing s.progress.state)
      (λ q. rw q (
        λ e. absurd (fitted-two (published_on s clock (if_large b) f s.progress.active) (on-stream-two s clock b f s.progress.active) e),
        λ n. absurd (n (is-publishing s.progress.state q)),
      ))
      (λ q. rw q (λ e. not-publishing s.progress.state q, λ n. refused-two s old s.progress.state))

  plan-two : (clock : RtmpTimestamp) (c : Call) → is_picture c ≡ true
      → (away_by (fitted s old (plan s clock c)).outcome ≡ Some 2) ↔ (s.progress.state ≢ Publishing)
  unfolding plan
  plan-two clock (picture b t d) h = published-two clock b _
  plan-two clock (connect app) h = absurd (true≢false (sym h))
  plan-two clock (play key) h = absurd (true≢false (sym h))
  plan-two clock (publish key t) h = absurd (true≢false (sym h))
  plan-two clock stop_playback h = absurd (true≢false (sym h))
  plan-two clock stop_publishing h = absurd (true≢false (sym h))
  plan-two clock ping h = absurd (true≢false (sym h))
  plan-two clock (sound b t d) h = absurd (true≢false (sym h))
  plan-two clock (metadata m text) h = absurd (true≢false (sym h))
  plan-two clock (bytes n) h = absurd (true≢false (sym h))
  plan-two clock (message k t x b) h = absurd (true≢false (sym h))

  pub step-two : (clock : RtmpTimestamp) (c : Call) → Sound s → is_picture c ≡ true
      → ((line_for c (step s clock c old)).turned_away ≡ Some 2) ↔ (s.progress.state ≢ Publishing)
  unfolding step line_of
  step-two clock c h i = rw h.session (plan-two clock c i)
