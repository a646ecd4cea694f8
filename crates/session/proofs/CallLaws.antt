-- From what the code of a ping, of a publish and of a byte count found and wrote to what their plans come to.
-- Assumes nothing.
use Rattle.std.specs.Prelude.{Result, Ok, Err, IsErrAnd, cond, Option, Some, None}
use Rattle.std.proofs.Common.{◌≡◌, ℕ, ◌+◌, ◌%◌, ◌^◌, ◌<◌, ◌≤◌, Bool, true, false, not, List, length, refl, append-nil, arith, le-leb, [], ◌∷◌, sym, ap, ◌∙◌, subst}
use borrow.Author.Tests.{lt-leb}
use Rattle.octets.specs.Output.{Written, no_space}
use Rattle.octets.specs.declared.output.NoSpace.{NoSpace}
use Rattle.messages.specs.declared.ids.RtmpTimestamp.{RtmpTimestamp}
use Rattle.messages.specs.declared.ids.StreamNumber.{StreamNumber}
use Rattle.messages.specs.declared.rtmp_message.UserControlEvent.TheVariants.{PingRequest}
use Rattle.bodies.specs.Bodies.{control_body, word_body}
use Rattle.requests.specs.Texts.{fits}
use Rattle.requests.proofs.TextLaws.{fits-length}
use Rattle.session.specs.Record.{is_session, with_counts}
use Rattle.session.specs.Calls.{Call, Message, plain, sends, one}
use Rattle.session.specs.Outcomes.{in_turn, sent_by, bodies, outcome_of}
use Rattle.session.specs.Plan.{Plan, Check, in_order, go, is_publishing, published_on, published, ping_plan, counted, counted_by, count}
use Rattle.session.specs.Step.{plan}
use Rattle.session.specs.Contract.{Does}
use Rattle.session.specs.Comes.{Comes, called, refused_with, quiet, active_of, stream_of, packet_of}
use Rattle.session.specs.declared.errors.ClientSessionError.{ClientSessionError}
use Rattle.session.specs.declared.errors.ClientSessionError.TheVariants.{SessionInInvalidState, NoKnownActiveStreamIdWhenRequired, Space, NotASession}
use Rattle.session.specs.declared.record.Called.{Called}
use Rattle.session.specs.declared.record.ClientSession.{ClientSession}
use Rattle.session.specs.declared.result.Outcome.{Outcome}
use Rattle.session.specs.declared.result.Outcome.TheVariants.{Pinged, One}
use Rattle.session.specs.declared.result.ClientSessionResult.TheVariants.{OutboundResponse}
use Rattle.session.specs.declared.result.Packet.{Packet}
use Rattle.session.specs.declared.state.ClientState.{ClientState}
use Rattle.session.proofs.StepLaws.{err_is, no_room, done-length, away_13, does_as, away, order_hit, order_miss, order-end, as-after, quiet-goes, goes_short, goes_done, sent_short, sent-done}

-- a text that refusal 9 doesn't meet can be written
pub fits-short : (t : List ℕ) → fits t ≡ true → length t < 2 ^ 16
fits-short t e = omega (arith, fits-length t e)

-- ---- a ping: its message and its time, or refusal 12
module _ {s : ClientSession} (t : RtmpTimestamp) {old exit : List ℕ} {w : Result ℕ NoSpace} where
  pub ping_unsent : {o : Result Outcome ClientSessionError}
      → Written old (control_body (PingRequest t)) exit w → w ≡ Err no_space → IsErrAnd o (λ d. d ≡ Space) → Comes s (ping_plan s t) old (called o s) exit
  unfolding ping_plan in_turn sent_by bodies
  ping_unsent h e g = goes_short (rw append-nil h) e (no_room s g)

  pub ping-sent : {n : ℕ} {p : Packet}
      → Written old (control_body (PingRequest t)) exit w
      → w ≡ Ok n
      → p ≡ packet_of 4 t (record { 0 = 0 }) false n
      → Comes s (ping_plan s t) old (called (Ok (Pinged p t)) s) exit
  unfolding ping_plan in_turn sent_by bodies outcome_of
  ping-sent h e f = goes_done (rw append-nil h) e refl (rw (f, done-length h e)) refl

-- by what a match of the code found
by_case : {A : Type 0} {s : ClientSession} {old exit : List ℕ} {r : Called} {a b : A} (f : A → Plan)
    → a ≡ b → Comes s (f b) old r exit → Comes s (f a) old r exit
by_case f e d = rw e d

-- ---- a publish: the stream that was found, and what the caller gave
cond-ok : {A E : Type 0} (b : Bool) {x : Result A E} (d : E) {v : A} → cond b x (Err d) ≡ Ok v → (b ≡ true) × (x ≡ Ok v)
cond-ok true d h = (refl, h)
cond-ok false d h = (cc, cc)

active-ok : (a : Option StreamNumber) {x : StreamNumber} → active_of a ≡ Ok x → a ≡ Some x
active-ok None h = cc
active-ok (Some y) h = cc

-- which refusal it is
data Why (i : Bool) (p : Bool) (a : Option StreamNumber) (g : ClientState) : ClientSessionError → Type 0 where
  no_session : i ≡ false → Why i p a g NotASession
  elsewhere : i ≡ true → p ≡ false → Why i p a g (SessionInInvalidState g)
  streamless : i ≡ true → p ≡ true → a ≡ None → Why i p a g NoKnownActiveStreamIdWhenRequired

why : (i p : Bool) (a : Option StreamNumber) (g : ClientState) {e : ClientSessionError}
    → cond i (cond p (active_of a) (Err (SessionInInvalidState g))) (Err NotASession) ≡ Err e → Why i p a g e
why false p a g {e} h = let z : NotASession ≡ e = cc in subst (Why false p a g) z (no_session refl)
why true false a g {e} h = let z : SessionInInvalidState g ≡ e = cc in subst (Why true false a g) z (elsewhere refl refl)
why true true None g {e} h = let z : NoKnownActiveStreamIdWhenRequired ≡ e = cc in subst (Why true true None g) z (streamless refl refl refl)
why true true (Some x) g h = absurd (let z : ◌≡◌ {A = ℕ} 0 1 = cc in omega arith)

module _ {s : ClientSession} {clock : RtmpTimestamp} {c : Call} {old : List ℕ} (given : Check) (m : StreamNumber → Message)
    (p : plan s clock c ≡ published s clock given m) {l : Result StreamNumber ClientSessionError} (f : l ≡ stream_of s) where
  pub on-stream : {x : StreamNumber} {r : Called} {exit : List ℕ} → l ≡ Ok x
      → Comes s (in_order (given ∷ []) (go (one (sends (m x))) s)) old r exit → Does s clock c old r exit
  unfolding published stream_of
  on-stream h d =
      let i = cond-ok (is_session s) _ (sym f ∙ h) in
      let j = cond-ok (is_publishing s.progress.state) _ i.1 in
      does_as i.0 p (order_miss _ _ _ _ (ap not j.0) (order-end _ (by_case (published_on s clock given m) (active-ok s.progress.active j.1) d)))

  for_why : {e : ClientSessionError} {o : Result Outcome ClientSessionError} → Why (is_session s) (is_publishing s.progress.state) s.progress.active s.progress.state e
      → o ≡ Err e → Does s clock c old (called o s) old
  unfolding published
  for_why (no_session i) q = away_13 i (ap (λ y. called y s) q)
  for_why (elsewhere i j) q = does_as i p (order_hit _ _ _ _ (ap not j) (ap (λ y. called y s) q))
  for_why (streamless i j k) q =
      does_as i p (order_miss _ _ _ _ (ap not j) (order-end _ (by_case (published_on s clock given m) k (away (ap (λ y. called y s) q)))))

  pub no-stream : {e : ClientSessionError} {o : Result Outcome ClientSessionError} → l ≡ Err e → IsErrAnd o (λ d. d ≡ e) → Does s clock c old (called o s) old
  unfolding stream_of
  no-stream h g = for_why (why (is_session s) (is_publishing s.progress.state) s.progress.active s.progress.state (sym f ∙ h)) (err_is g)

  pub not-given : {x : StreamNumber} {r : Called} → l ≡ Ok x → given.when ≡ true → r ≡ refused_with s given.says → Does s clock c old r old
  not-given h k q = on-stream h (order_hit _ _ _ _ k q)

-- what a message that was written, or had no space, answers
abbrev pub sent_as : ClientSession → ℕ → RtmpTimestamp → StreamNumber → Bool → Result ℕ NoSpace → Called
sent_as s k t x d (Ok n) = called (Ok (One (OutboundResponse (packet_of k t x d n)))) s
sent_as s k t x d (Err e) = refused_with s Space

module _ {s : ClientSession} (clock : RtmpTimestamp) {old : List ℕ} {r : Called} {t : Bool} (p : t ≡ is_publishing s.progress.state) (b : Bool) (e : ClientSessionError) where
  pub published-goes : (k : ℕ) (time : RtmpTimestamp) (d : Bool) {x : StreamNumber} {body exit : List ℕ} {w : Result ℕ NoSpace}
      → not t ≡ false → s.progress.active ≡ Some x → b ≡ false → Written old body exit w → r ≡ sent_as s k time x d w
      → Comes s (published s clock (record { when = b; says = e })
      (λ y. record { type_id = k; time = time; stream = y; droppable = d; uncompressed = false; body = body })) old r exit
  unfolding published
  published-goes k time d {x} {body} {exit} {w} h i g v q =
      let m : StreamNumber → Message = λ y. record { type_id = k; time = time; stream = y; droppable = d; uncompressed = false; body = body } in
      let j : not (is_publishing s.progress.state) ≡ false = rw (← p) h in
      order_miss _ _ _ _ j (order-end _ (by_case (published_on s clock (record { when = b; says = e }) m) i (order_miss _ _ _ _ g (order-end _ (sent w v q)))))
    where
      sent : (w : Result ℕ NoSpace) → Written old body exit w → r ≡ sent_as s k time x d w
          → Comes s (go (one (sends (record { type_id = k; time = time; stream = x; droppable = d; uncompressed = false; body = body }))) s) old r exit
      sent (Ok n) v q = rw q (sent-done v refl refl)
      sent (Err c) v q = rw q (sent_short v refl refl)

-- ---- a byte count
module _ (s : ClientSession) (clock : RtmpTimestamp) (n : ℕ) {total : ℕ} (sum : total ≡ (s.link.total + n) % 2 ^ 64) where
  counted_is : (pending : ℕ) → with_counts s pending total ≡ counted s clock n pending
  counted_is pending = ap (with_counts s pending) sum

  module _ {old : List ℕ} {r : Called} where
    pub count-alone : s.link.window ≡ None → r ≡ quiet (with_counts s s.link.pending total) → Comes s (count s clock n) old r old
    unfolding count
    count-alone w q = by_case (counted_by s clock n) w (quiet-goes (rw (counted_is s.link.pending) at q))

    pub count-below : (size : ℕ) {pending : ℕ}
        → s.link.window ≡ Some size
        → s.link.pending + n < size
        → pending ≡ s.link.pending + n
        → r ≡ quiet (with_counts s pending total)
        → Comes s (count s clock n) old r old
    unfolding count
    count-below size {pending} w l p q =
        by_case (counted_by s clock n) w (rw (lt-leb size (s.link.pending + n) l) (quiet-goes (rw (counted_is pending, p) at q)))

    pub count-reached : (size word : ℕ) {exit : List ℕ}
        → s.link.window ≡ Some size
        → size ≤ s.link.pending + n
        → word ≡ (s.link.pending + n) % 2 ^ 32
        → Comes s (go (one (sends (plain 3 clock (word_body word)))) (with_counts s 0 total)) old r exit
        → Comes s (count s clock n) old r exit
    unfolding count
    count-reached size word w l i d =
        by_case (counted_by s clock n) w
        (rw (le-leb size (s.link.pending + n) l, ← i) (as-after (counted_is 0) d))
