-- The statements of specs/Acknowledged.antt.
-- Assumes nothing.
use Prim.Native.Nat.{ℕ, ◌+◌, ◌%◌, ◌^◌, ◌≤◌}
use native.Mathlib.Omega.{arith}
use mathlib.Core.Path.{◌≡◌, refl, ap, ◌∙◌}
use mathlib.Core.Bool.{Bool, true, false, cond, ◌||◌}
use mathlib.Core.List.{List, [], ◌∷◌, append-nil}
use lib.Dec.{ltb}
use lib.ListN.{length}
use borrow.Author.Tests.{le-leb, lt-leb, le-ltb}
use Rattle.std.specs.Prelude.{Some}
use Rattle.octets.specs.Parse.{Parse, bad, got}
use Rattle.octets.specs.BigEndian.{digits, uint}
use Rattle.octets.proofs.BigEndianLaws.{length_digits}
use Rattle.messages.specs.Incoming.{window_size, whole, decode}
use Rattle.messages.specs.Places.{placed}
use Rattle.messages.specs.declared.ids.RtmpTimestamp.{RtmpTimestamp}
use Rattle.messages.specs.declared.ids.StreamNumber.{StreamNumber}
use Rattle.requests.proofs.BoolLaws.{by_cases}
use Rattle.session.specs.Calls.{Call, bytes, message, plain, sends, Results, nothing, one}
use Rattle.session.specs.Message.{on_message}
use Rattle.session.specs.Outcomes.{in_turn, sent_by, bodies, output, outcome_of}
use Rattle.session.specs.Plan.{in_order, go, count, counted, counted_by}
use Rattle.session.specs.Record.{texts_sound, chunk_sound, is_session, fresh, open_of}
use Rattle.session.specs.Step.{Stepped, fitted, plan, step}
use Rattle.session.specs.declared.config.ClientSessionConfig.{ClientSessionConfig}
use Rattle.session.specs.declared.record.ClientSession.{ClientSession}
use Rattle.session_laws.specs.Acknowledged.{sum, acknowledged, counts, sets_window, since, is_set, Sum, SumFrom, EveryTurn, Counts, Acknowledges, ByWindow, EveryCount, SetsWindow, EveryWindow}
use Rattle.session_laws.specs.Kept.{ClosesBy, reply}
use Rattle.session_laws.specs.Lines.{Line, step_of, line_of, lines, after, results_of, messages_in, sent_on}
use Rattle.session_laws.specs.Refusals.{is_refused}
use Rattle.session_laws.proofs.DecideLaws.{clash}
use Rattle.session_laws.proofs.SentLaws.{reads_back}
use Rattle.session_laws.proofs.WindowLaws.{at_five}
use Rattle.session_laws.proofs.StepLaws.{Went, stays, shuts, moves, went, step-go}

shut_link : {s : ClientSession} {c : Call} {t : ClientSession} → ClosesBy s c t → t.link ≡ s.link
shut_link (reply k time x b d t e w) = w.link_stays

-- one call, with its outcome and output as they came
module _ (s : ClientSession) (c : Call) where
  abbrev line : Stepped → Line
  line r = record { call = c; outcome = r.outcome; output = r.output }

  record Sums (r : Stepped) : Type 0 where
    sums : (sum (sent_on (line r)) + r.session.link.pending) % 2 ^ 32 ≡ (s.link.pending + since (is_set s.link.window) (line r ∷ [])) % 2 ^ 32
    sets : is_set r.session.link.window ≡ cond (is_refused r.outcome) (is_set s.link.window) (is_set s.link.window || sets_window c)

  sums-went : {old : List ℕ} (r : Stepped) → Went s c old r → Sums r
  unfolding sum since results_of messages_in
  sums-went r (stays e h) = record { sums = omega arith; sets = refl }
  sums-went r (shuts e t h w m) = let q = shut_link w in record { sums = omega (arith, ap (λ l. l.pending) q); sets = ap (λ l. is_set l.window) q }
  sums-went {old} r (moves rs t m) =
      record { sums = rw (reads_back old rs) (m.sums ∙ omega arith); sets = m.sets }

pub every_turn : EveryTurn
every_turn s t = let w = sums-went s t.call (step_of s t) (went s t.call t.lent t.clock) in record { sums = w.sums; sets = w.sets }

-- the lines one by one
sum-nil : (s : ClientSession) → (acknowledged [] + s.link.pending) % 2 ^ 32 ≡ (s.link.pending + since (is_set s.link.window) []) % 2 ^ 32
unfolding acknowledged since
sum-nil s = omega arith

since-line : (set : Bool) (l : Line) (ls : List Line) →
    since set (l ∷ ls) ≡ since set (l ∷ []) + since (cond (is_refused l.outcome) set (set || sets_window l.call)) ls
unfolding since
since-line set l ls = at (is_refused l.outcome)
  where
    at : (b : Bool) → cond b (since set ls) (cond set (counts l.call) 0 + since (set || sets_window l.call) ls)
        ≡ cond b 0 (cond set (counts l.call) 0 + 0) + since (cond b set (set || sets_window l.call)) ls
    at true = omega arith
    at false = omega arith

pub sum-from : SumFrom
unfolding lines after acknowledged
sum-from s [] = sum-nil s
sum-from s (t ∷ ts) =
    let o = every_turn s t in
    let i = rw o.sets at (sum-from (step_of s t).session ts) in
    rw (since-line (is_set s.link.window) (line_of s t) (lines (step_of s t).session ts)) (omega (arith, o.sums))

-- opening
pub open_is : (c : ClientSessionConfig) → (open_of c).session ≡ fresh c
unfolding open_of
open_is c = by_cases (texts_sound c) (λ h. by_cases (chunk_sound c.chunk_size) (λ k. rw (h, k)) (λ k. rw (h, k))) (λ h. rw h)

pub sum-opened : Sum
unfolding fresh
sum-opened c q ts = rw (open_is c) (sum-from (fresh c) ts ∙ omega arith)

-- a count that passes
module _ (s : ClientSession) (clock : RtmpTimestamp) (n : ℕ) (old : List ℕ) (h : is_session s ≡ true) where
  counted-as : (rs : Results) (p : ℕ) → counted_by s clock n s.link.window ≡ go rs (counted s clock n p) →
      length (output rs) ≤ length old → Counts s clock n old (sent_by (in_turn rs)) p
  unfolding plan count
  counted-as rs p e l =
      let q = step-go s clock (bytes n) old rs (counted s clock n p) h e l in
      record {
        passes = ap (λ r. is_refused r.outcome) q;
        sends = ap (λ r. messages_in r.output (results_of r.outcome)) q ∙ reads_back old rs;
        pending_is = ap (λ r. r.session.link.pending) q;
        total_is = ap (λ r. r.session.link.total) q;
      }

  module _ (l : 4 ≤ length old) where
    reaching : (w : ℕ) → s.link.window ≡ Some w → w ≤ s.link.pending + n → Acknowledges s clock n old
    unfolding in_turn sent_by bodies
    reaching w e r =
        let body = digits 4 ((s.link.pending + n) % 2 ^ 32) in
        counted-as (one (sends (plain 3 clock body))) 0 (rw (e, le-leb w (s.link.pending + n) r))
        (rw (append-nil body, length_digits 4 ((s.link.pending + n) % 2 ^ 32)) l)

    by-window : ByWindow s clock n old
    unfolding in_turn sent_by bodies
    by-window =
        record {
          no_window = λ e. counted-as nothing s.link.pending (rw e) (omega arith);
          not_reached = λ w e r. counted-as nothing (s.link.pending + n) (rw (e, lt-leb w (s.link.pending + n) r)) (omega arith);
          reached = reaching;
          past = λ w e b r. reaching w e (omega arith);
          window_zero = λ e. reaching 0 e (omega arith);
        }

pub every-count : EveryCount
every-count s clock n old h l = by-window s clock n old h l

-- a window
module _ (s : ClientSession) (clock t : RtmpTimestamp) (x : StreamNumber) (b old : List ℕ) where
  -- `p` is what the body's four bytes say
  window-set : (p : Parse ℕ) → decode 5 b ≡ whole window_size p →
      is_refused (fitted s old (on_message s clock b 5 t x (placed b (whole window_size p)))).outcome ≡ false →
      SetsWindow s b old (fitted s old (on_message s clock b 5 t x (placed b (whole window_size p))))
  unfolding fitted on_message placed in_turn sent_by bodies outcome_of
  window-set bad e r = clash (cc)
  window-set (got n []) e r =
      rw (le-ltb (length old) 0 (omega arith))
      (record { size = n; says = e; outcome_is = refl; output_stays = refl; window_is = refl; pending_stays = refl })
  window-set (got n (y ∷ ys)) e r = clash (cc)

  window-large : is_refused (fitted s old (plan s clock (message 5 t x b))).outcome ≡ false →
      SetsWindow s b old (fitted s old (plan s clock (message 5 t x b)))
  unfolding plan in_order fitted
  window-large q =
      by_cases (ltb 16777215 (length b)) (λ h. let z = rw h at q in clash (cc))
      (λ h. let e = at_five 5 b refl in rw (h, e) (window-set (uint 4 b) e (rw (h, e) at q)))

pub every-window : EveryWindow
unfolding step
every-window s clock t x b old q =
    by_cases (is_session s) (λ h. rw h (window-large s clock t x b old (rw h at q))) (λ h. let z = rw h at q in clash (cc))
