-- From what a call's code found and wrote to what its plan comes to: refusals in their order, one message, nothing. Each law is stated once, for
-- every call.
-- Assumes nothing.
use Rattle.std.specs.Prelude.{Result, Ok, Err, IsErrAnd, ⊤, Option, Some, None}
use Rattle.std.proofs.lemmas.Result.{err_from_is_err_and}
use Rattle.std.proofs.Common.{◌≡◌, ℕ, Bool, true, false, not, ltb, List, [], ◌∷◌, ◌++◌, length, drop, refl, append-nil, le-ltb, sym, ap, ◌∙◌}
use native.Mathlib.Omega.{arith}
use borrow.Author.Tests.{not-false}
use Rattle.octets.specs.Output.{Written, answer, left, no_space}
use Rattle.octets.specs.declared.output.NoSpace.{NoSpace}
use Rattle.requests.proofs.BoolLaws.{by_cases, and_left}
use Rattle.messages.specs.declared.ids.RtmpTimestamp.{RtmpTimestamp}
use Rattle.messages.specs.declared.ids.StreamNumber.{StreamNumber}
use Rattle.bodies.specs.Bodies.{delete_stream_body}
use Rattle.session.specs.Record.{texts_sound, is_session, with_progress}
use Rattle.session.specs.Calls.{Call, Message, on_stream, sends, Results, nothing, one}
use Rattle.session.specs.Outcomes.{in_turn, sent_by, bodies, output, outcome_of}
use Rattle.session.specs.Plan.{Plan, refuse, go, Check, in_order, stopped, stop}
use Rattle.session.specs.Step.{plan, Stepped, away as turned, fitted, step}
use Rattle.session.specs.Comes.{Comes, called, refused_with, quiet, checked, packet_of}
use Rattle.session.specs.Contract.{Does}
use Rattle.session.specs.declared.errors.ClientSessionError.{ClientSessionError}
use Rattle.session.specs.declared.errors.ClientSessionError.TheVariants.{NotASession, Space}
use Rattle.session.specs.declared.record.Called.{Called}
use Rattle.session.specs.declared.record.ClientSession.{ClientSession}
use Rattle.session.specs.declared.result.ClientSessionResult.TheVariants.{OutboundResponse}
use Rattle.session.specs.declared.result.Outcome.{Outcome}
use Rattle.session.specs.declared.result.Outcome.TheVariants.{Nothing, One}
use Rattle.session.specs.declared.state.ClientState.{ClientState}
use Rattle.session.specs.declared.state.ClientState.TheVariants.{Connected}

-- a test that a function made: its result t, what its contract says, and the branch
pub not-said : {t b v : Bool} → t ≡ b → not t ≡ v → not b ≡ v
not-said e h = rw (← e) h

pub is_said : {t b : Bool} → t ≡ b → not t ≡ false → b ≡ true
is_said {t} e h = rw (← e) (not-false t h)

-- a session's settings have sound texts
pub texts_of : (s : ClientSession) → is_session s ≡ true → texts_sound s.config ≡ true
unfolding is_session
texts_of s e = and_left _ _ (and_left _ _ e)

-- ---- a `?`: the error that it hands on is the one that was found
pub err_is : {A B : Type 0} {r : Result A B} {e : B} → IsErrAnd r (λ d. d ≡ e) → r ≡ Err e
err_is {r = r} h = let p = err_from_is_err_and r h in p.1 ∙ ap Err p.2

-- a body that was written fitted, and has that length; one that wasn't didn't fit
pub done-length : {old b exit : List ℕ} {w : Result ℕ NoSpace} {n : ℕ} → Written old b exit w → w ≡ Ok n → n ≡ length b
unfolding answer
done-length {old} {b} {w = w} {n} h d =
    by_cases (ltb (length old) (length b))
    (λ y. absurd (let e : w ≡ Err no_space = h.answered ∙ rw y in let z : ◌≡◌ {A = ℕ} 0 1 = cc in omega arith))
    (λ f. let e : w ≡ Ok (length b) = h.answered ∙ rw f in cc)

done-fits : {old b exit : List ℕ} {w : Result ℕ NoSpace} {n : ℕ} → Written old b exit w → w ≡ Ok n → ltb (length old) (length b) ≡ false
unfolding answer
done-fits {old} {b} {w = w} {n} h d =
    by_cases (ltb (length old) (length b))
    (λ y. absurd (let e : w ≡ Err no_space = h.answered ∙ rw y in let z : ◌≡◌ {A = ℕ} 0 1 = cc in omega arith))
    (λ f. f)

short-fits : {old b exit : List ℕ} {w : Result ℕ NoSpace} → Written old b exit w → w ≡ Err no_space → ltb (length old) (length b) ≡ true
unfolding answer
short-fits {old} {b} {w = w} h d =
    by_cases (ltb (length old) (length b))
    (λ y. y)
    (λ f. absurd (let e : w ≡ Ok (length b) = h.answered ∙ rw f in let z : ◌≡◌ {A = ℕ} 0 1 = cc in omega arith))

-- refusal 12
pub no_room : (s : ClientSession) {o : Result Outcome ClientSessionError} → IsErrAnd o (λ d. d ≡ Space) → called o s ≡ refused_with s Space
no_room s g = ap (λ y. called y s) (err_is g)

-- ---- a call: refusal 13 in front, and else what its plan comes to
module _ {s : ClientSession} {clock : RtmpTimestamp} {c : Call} {old : List ℕ} where
  pub away_13 : {r : Called} → is_session s ≡ false → r ≡ refused_with s NotASession → Does s clock c old r old
  unfolding step
  away_13 f q = rw q (record { answers = rw f; hands_back = rw f; leaves = rw f })

  pub does : {r : Called} {exit : List ℕ} → is_session s ≡ true → Comes s (plan s clock c) old r exit → Does s clock c old r exit
  unfolding step
  does f d = record { answers = rw f d.answers; hands_back = rw f d.hands_back; leaves = rw f d.leaves }

  pub does_as : {r : Called} {p : Plan} {exit : List ℕ} → is_session s ≡ true → plan s clock c ≡ p → Comes s p old r exit → Does s clock c old r exit
  does_as f q d = does f (rw q d)

module _ (s : ClientSession) {t : Result ⊤ ClientSessionError} (e : t ≡ checked s) where
  pub is-checked : {u : ⊤} → t ≡ Ok u → is_session s ≡ true
  unfolding checked
  is-checked h = let k = sym e ∙ h in by_cases (is_session s) (λ y. y) (λ n. let b = rw n at k in cc)

  pub not-checked : {d : ClientSessionError} → t ≡ Err d → (is_session s ≡ false) × (d ≡ NotASession)
  unfolding checked
  not-checked h = let k = sym e ∙ h in by_cases (is_session s) (λ y. let b = rw y at k in (cc, cc)) (λ n. let b = rw n at k in (n, cc))

  pub does_13 : {clock : RtmpTimestamp} {c : Call} {old : List ℕ} {d : ClientSessionError} {o : Result Outcome ClientSessionError}
      → t ≡ Err d → IsErrAnd o (λ x. x ≡ d) → Does s clock c old (called o s) old
  does_13 h g = let k = not-checked h in away_13 k.0 (ap (λ y. called y s) (err_is g ∙ ap Err k.1))

module _ {s : ClientSession} {old : List ℕ} {r : Called} where
  -- what a plan comes to, worked out
  pub comes-to : {p : Plan} {exit : List ℕ} (t : Stepped)
      → fitted s old p ≡ t → r ≡ record { outcome = t.outcome; session = t.session } → exit ≡ t.output → Comes s p old r exit
  comes-to t f q e = record { answers = rw (f, q); hands_back = rw (f, q); leaves = rw (f, e) }

  -- ---- refusals in order
  pub away : {e : ClientSessionError} → r ≡ refused_with s e → Comes s (refuse e) old r old
  unfolding fitted
  away {e} q = comes-to (turned e s old) refl q refl

  module _ (b : Bool) (e : ClientSessionError) (ks : List Check) (p : Plan) where
    pub order_hit : b ≡ true → r ≡ refused_with s e → Comes s (in_order (record { when = b; says = e } ∷ ks) p) old r old
    unfolding in_order
    order_hit h q = rw h (away q)

    pub order_miss : {exit : List ℕ} → b ≡ false → Comes s (in_order ks p) old r exit → Comes s (in_order (record { when = b; says = e } ∷ ks) p) old r exit
    unfolding in_order
    order_miss h d = rw h d

  pub order-end : (p : Plan) {exit : List ℕ} → Comes s p old r exit → Comes s (in_order [] p) old r exit
  unfolding in_order
  order-end p d = d

  -- a session after that is known under another name
  pub as-after : {rs : Results} {a after : ClientSession} {exit : List ℕ} → a ≡ after → Comes s (go rs a) old r exit → Comes s (go rs after) old r exit
  as-after e h = rw (← e) h

  -- ---- what goes out
  pub quiet-goes : {after : ClientSession} → r ≡ quiet after → Comes s (go nothing after) old r old
  unfolding fitted in_turn sent_by bodies outcome_of
  quiet-goes {after} q = comes-to (record { outcome = Ok Nothing; session = after; output = old }) (rw (le-ltb (length old) 0 (omega arith))) q refl

  -- whatever goes out, written by one writer; or no space for it
  pub goes_short : {rs : Results} {after : ClientSession} {exit : List ℕ} {w : Result ℕ NoSpace}
      → Written old (output rs) exit w → w ≡ Err no_space → r ≡ refused_with s Space → Comes s (go rs after) old r exit
  unfolding fitted left
  goes_short h d q = let f = short-fits h d in comes-to (turned Space s old) (rw f) q (rw (h.list, f))

  pub goes_done : {rs : Results} {a after : ClientSession} {o : Outcome} {exit : List ℕ} {w : Result ℕ NoSpace} {n : ℕ}
      → Written old (output rs) exit w → w ≡ Ok n → a ≡ after → o ≡ outcome_of rs → r ≡ record { outcome = Ok o; session = a } → Comes s (go rs after) old r exit
  unfolding fitted left
  goes_done {rs} {after = after} h d e o q =
      let f = done-fits h d in
      comes-to (record { outcome = Ok (outcome_of rs); session = after; output = output rs ++ drop (length (output rs)) old }) (rw f) (rw (← o, ← e) q) (rw (h.list, f))

-- one message
module _ {s : ClientSession} {old exit : List ℕ} {after : ClientSession} {w : Result ℕ NoSpace} where
  pub sent_short : {m : Message} {o : Result Outcome ClientSessionError}
      → Written old m.body exit w → w ≡ Err no_space → IsErrAnd o (λ d. d ≡ Space) → Comes s (go (one (sends m)) after) old (called o s) exit
  unfolding in_turn sent_by bodies
  sent_short {m} h e g = goes_short (rw (append-nil m.body) h) e (no_room s g)

  pub sent-done : {k : ℕ} {t : RtmpTimestamp} {x : StreamNumber} {d : Bool} {b : List ℕ} {n : ℕ} {o : Outcome}
      → Written old b exit w
      → w ≡ Ok n
      → o ≡ One (OutboundResponse (packet_of k t x d n))
      → Comes s (go (one (sends (record { type_id = k; time = t; stream = x; droppable = d; uncompressed = false; body = b }))) after) old (called (Ok o) after) exit
  unfolding in_turn sent_by bodies outcome_of
  sent-done {b = b} h e f = goes_done (rw (append-nil b) h) e refl (rw (f, done-length h e)) refl

-- ---- a stop: at its own stages, and at another
module _ {s : ClientSession} (clock : RtmpTimestamp) {old : List ℕ} {r : Called} where
  pub stopped_none : {a : (Option StreamNumber)} → a ≡ None → r ≡ quiet (with_progress s Connected None) → Comes s (stopped s clock a) old r old
  stopped_none e q = rw e (quiet-goes q)

  pub stopped-some : {a : (Option StreamNumber)} {x : StreamNumber} {exit : List ℕ}
      → a ≡ Some x
      → Comes s (go (one (sends (on_stream 20 clock x (delete_stream_body x.0)))) (with_progress s Connected None)) old r exit
      → Comes s (stopped s clock a) old r exit
  stopped-some e d = rw e d

module _ {s : ClientSession} (clock : RtmpTimestamp) (own : ClientState → Bool) {old : List ℕ} {r : Called} {t : Bool}
    (e : t ≡ own s.progress.state) where
  pub stop-here : {exit : List ℕ}
      → t ≡ true → Comes s (stopped s clock s.progress.active) old r exit → Comes s (stop s clock own) old r exit
  unfolding stop
  stop-here h d = let f : own s.progress.state ≡ true = rw (← e) h in rw f d

  pub stop-elsewhere : t ≡ false → r ≡ quiet s → Comes s (stop s clock own) old r old
  unfolding stop
  stop-elsewhere h q = let f : own s.progress.state ≡ false = rw (← e) h in rw f (quiet-goes q)
