-- What a reply comes to: a connect that was accepted or rejected, a stream that was granted, and what closing a request says of the request.
-- Assumes nothing.
use Rattle.std.specs.Prelude.{Ok, Option, Some, None, Result, Err}
use Rattle.std.proofs.Common.{◌≡◌, ℕ, ◌-◌, ◌≤◌, true, false, ◌&&◌, List, ◌++◌, length, drop, refl, sym, ap, ◌∙◌, append-nil, arith, length-append}
use Rattle.octets.specs.Compare.{ascii}
use Rattle.octets.specs.Output.{Written, no_space}
use Rattle.octets.specs.declared.output.NoSpace.{NoSpace}
use Rattle.octets.proofs.BigEndianLaws.{length_digits}
use Rattle.numbers.specs.Numbers.{held}
use Rattle.amf0.specs.Lookup.{properties_at}
use Rattle.amf0.specs.Places.{text_of_property}
use Rattle.octets.specs.declared.span.Span.{Span}
use Rattle.messages.specs.declared.ids.RtmpTimestamp.{RtmpTimestamp}
use Rattle.messages.specs.declared.ids.StreamNumber.{StreamNumber}
use Rattle.messages.specs.declared.publish_request_type.PublishRequestType.{PublishRequestType}
use Rattle.messages.specs.declared.rtmp_message.Command.{Command}
use Rattle.messages.specs.declared.rtmp_message.UserControlEvent.TheVariants.{SetBufferLength}
use Rattle.bodies.specs.Bodies.{play_body, publish_body, control_body, word_body}
use Rattle.bodies.proofs.BodyLaws.{length-set_buffer_length, length-publish}
use Rattle.requests.proofs.BoolLaws.{and_right}
use Rattle.requests.proofs.PlaceLaws.{found-sound}
use Rattle.requests.proofs.TableLaws.{sound}
use Rattle.requests.specs.Texts.{text_of, text_sound}
use Rattle.requests.specs.Places.{lookup}
use Rattle.requests.specs.Table.{closed, Closed, closed_by, close_of, requests_sound}
use Rattle.requests.specs.declared.outstanding_transaction.OutstandingTransaction.{OutstandingTransaction}
use Rattle.requests.specs.declared.outstanding_transaction.OutstandingTransaction.TheVariants.{ConnectionRequested}
use Rattle.requests.specs.declared.outstanding_transaction.TransactionPurpose.{TransactionPurpose}
use Rattle.requests.specs.declared.outstanding_transaction.TransactionPurpose.TheVariants.{PlayRequest, PublishRequest}
use Rattle.requests.specs.declared.table.Requests.{Requests}
use Rattle.requests.specs.declared.place.Request.{Request}
use Rattle.requests.specs.declared.text.Text.{Text}
use Rattle.session.specs.Record.{texts_sound, chunk_sound, is_session, with_progress, with_requests}
use Rattle.session.specs.Outcomes.{in_turn, sent_by, bodies, output, outcome_of}
use Rattle.session.specs.Plan.{go, close as closing}
use Rattle.session.specs.Message.{after_closing, accepted, grant_sends, requested_stage, granted, unknown_reply, result_of, result_to, error_of, error_to}
use Rattle.session.specs.Comes.{Comes, called, refused_with, packet_of}
use Rattle.session.specs.declared.errors.ClientSessionError.TheVariants.{CreateStreamResponseHadNoStreamNumber, Space}
use Rattle.session.specs.declared.events.ClientSessionEvent.TheVariants.{ConnectionRequestRejected}
use Rattle.session.specs.declared.record.Called.{Called}
use Rattle.session.specs.declared.record.ClientSession.{ClientSession}
use Rattle.session.specs.declared.result.ClientSessionResult.TheVariants.{OutboundResponse, RaisedEvent}
use Rattle.session.specs.declared.result.Outcome.{Outcome}
use Rattle.session.specs.declared.result.Outcome.TheVariants.{One, Two, Accepted}
use Rattle.session.specs.declared.result.Packet.{Packet}
use Rattle.session.specs.declared.state.ClientState.TheVariants.{Connected}
use Rattle.session.proofs.StepLaws.{as-after, goes_short, goes_done}
use Rattle.session.proofs.MessageLaws.{raised-goes, raised-after}

-- ---- a request closed
-- the request that was open, by the answer
record Was (q : Requests) (n : ℕ) (x : Closed) (o : Option Request) (y : Request) : Type 0 where
  request : o ≡ Some y
  rest : x.requests ≡ closed q n

was_some : (q : Requests) (n : ℕ) (x : Closed) (o : Option Request) {y : Request}
    → x ≡ closed_by q n o → x.request ≡ Some y → Was q n x o y
was_some q n x None e a = absurd (let z : ◌≡◌ {A = ℕ} 0 1 = cc in omega arith)
was_some q n x (Some p) e a = record { request = sym (ap (λ (z : Closed). z.request) e) ∙ a; rest = ap (λ (z : Closed). z.requests) e }

-- and else none was, and the table stays
was-none : (q : Requests) (n : ℕ) (x : Closed) (o : Option Request) → x ≡ closed_by q n o → x.request ≡ None → (o ≡ None) × (x.requests ≡ q)
was-none q n x None e a = (refl, ap (λ (z : Closed). z.requests) e)
was-none q n x (Some p) e a = absurd (let z : ◌≡◌ {A = ℕ} 0 1 = cc in omega arith)

module _ (q : Requests) (n : ℕ) (x : Closed) (e : x ≡ close_of q (record { 0 = n })) where
  known : {y : Request} → x.request ≡ Some y → Was q n x (lookup n q.places) y
  unfolding close_of
  known a = was_some q n x (lookup n q.places) e a

  unknown : x.request ≡ None → (lookup n q.places ≡ None) × (x.requests ≡ q)
  unfolding close_of
  unknown a = was-none q n x (lookup n q.places) e a

-- a session's requests are sound, and so is the text of one that was closed
requests_of : (s : ClientSession) → is_session s ≡ true → requests_sound s.requests ≡ true
unfolding is_session
requests_of s e = and_right (texts_sound s.config && chunk_sound s.config.chunk_size) (requests_sound s.requests) e

pub text-closed : (s : ClientSession) (n : ℕ) {x : Closed} {y : Request}
    → is_session s ≡ true → x ≡ close_of s.requests (record { 0 = n }) → x.request ≡ Some y → text_sound y.text ≡ true
text-closed s n {x} h e a =
    let q = s.requests in
    (found-sound q.next n q.places (sound q (requests_of s h)).places (known q n x e a).request).text

-- ---- what a grant writes and answers
module _ (s : ClientSession) (clock : RtmpTimestamp) (b : List ℕ) (key : Text) (x : StreamNumber) {p : TransactionPurpose} where
  pub play-written : {old exit : List ℕ} {ms : ℕ} {w : Result ℕ NoSpace} → p ≡ PlayRequest → s.config.playback_buffer_length_ms ≡ ms
      → Written old (control_body (SetBufferLength x ms) ++ play_body (text_of key)) exit w → Written old (output (grant_sends s clock b p key x)) exit w
  unfolding in_turn sent_by bodies
  play-written e m h = rw (e, m, append-nil) h

  pub publish-written : {old exit : List ℕ} {t : PublishRequestType} {w : Result ℕ NoSpace} → p ≡ PublishRequest t
      → Written old (publish_body (text_of key) t) exit w → Written old (output (grant_sends s clock b p key x)) exit w
  unfolding in_turn sent_by bodies
  publish-written e h = rw (e, append-nil) h

  pub play-answered : {n : ℕ} {a : Packet} → p ≡ PlayRequest → n ≡ length (output (grant_sends s clock b p key x))
      → a ≡ packet_of 4 clock (record { 0 = 0 }) false 10
      → Two a (record { type_id = 20; time = clock; stream = x; droppable = false; uncompressed = false; start = 10; len = n - 10 })
      ≡ outcome_of (grant_sends s clock b p key x)
  unfolding in_turn sent_by bodies outcome_of
  play-answered {n} e l f =
      let c = control_body (SetBufferLength x s.config.playback_buffer_length_ms) in
      let t : length c ≡ 10 = length-set_buffer_length _ _ in
      let l2 : n ≡ length (c ++ play_body (text_of key)) = rw (e, append-nil) at l in
      let m : n - 10 ≡ length (play_body (text_of key)) = omega (arith, length-append c (play_body (text_of key))) in
      rw (e, f, m, t)

  pub publish-answered : {n : ℕ} {t : PublishRequestType} {a : Outcome} → p ≡ PublishRequest t → n ≡ length (output (grant_sends s clock b p key x))
      → a ≡ One (OutboundResponse (packet_of 20 clock x false n)) → a ≡ outcome_of (grant_sends s clock b p key x)
  unfolding in_turn sent_by bodies outcome_of
  publish-answered {n} {t} e l f = let m : n ≡ length (publish_body (text_of key) t) = rw (e, append-nil) at l in rw (e, f, m)

pub grant-long : (s : ClientSession) (clock : RtmpTimestamp) (b : List ℕ) (key : Text) (x : StreamNumber) (p : TransactionPurpose)
    → 10 ≤ length (output (grant_sends s clock b p key x))
unfolding in_turn sent_by bodies
grant-long s clock b key x PlayRequest = simp (length-append, length-set_buffer_length) (omega arith)
grant-long s clock b key x (PublishRequest t) = simp (length-append, length-publish) (omega arith)

module _ {s : ClientSession} {old : List ℕ} {r : Called} (clock : RtmpTimestamp) (b : List ℕ) {exit : List ℕ} where
  -- ---- a connect that was accepted
  module _ (n : ℕ) {w : Result ℕ NoSpace} where
    pub accept_short : Written old (word_body s.config.window_ack_size ++ word_body s.config.chunk_size) exit w
        → w ≡ Err no_space → r ≡ refused_with s Space → Comes s (accepted s clock b n) old r exit
    unfolding in_turn sent_by bodies
    accept_short h e q = goes_short (rw (append-nil) h) e q

    pub accept_done : {k : ℕ} {q : Requests} {o : Outcome}
        → Written old (word_body s.config.window_ack_size ++ word_body s.config.chunk_size) exit w → w ≡ Ok k
        → q ≡ closed s.requests n
        → o ≡ Accepted (packet_of 5 clock (record { 0 = 0 }) false 4)
        (record { type_id = 1; time = record { 0 = 0 }; stream = record { 0 = 0 }; droppable = false; uncompressed = true; start = 4; len = 4 })
        → r ≡ called (Ok o) (with_progress (with_requests s q) Connected s.progress.active) → Comes s (accepted s clock b n) old r exit
    unfolding in_turn sent_by bodies outcome_of
    accept_done h e f o q =
        goes_done (rw (append-nil) h) e (ap (λ y. with_progress (with_requests s y) Connected s.progress.active) f)
        (o ∙ rw (length_digits 4 s.config.window_ack_size, length_digits 4 s.config.chunk_size))
        q

  -- ---- a stream's number, or none
  module _ (n : ℕ) (p : TransactionPurpose) (key : Text) {a : Option StreamNumber} where
    pub granted-none : a ≡ None
        → Comes s (closing CreateStreamResponseHadNoStreamNumber (after_closing s clock b n)) old r exit → Comes s (granted s clock b n p key a) old r exit
    granted-none e h = rw e h

    pub granted-number : {x : StreamNumber} {q : Requests} → a ≡ Some x → q ≡ closed s.requests n
        → Comes s (go (grant_sends s clock b p key x) (with_progress (with_requests s q) (requested_stage p) (Some x))) old r exit
        → Comes s (granted s clock b n p key a) old r exit
    granted-number {x} e g h = rw e (as-after (ap (λ y. with_progress (with_requests s y) (requested_stage p) (Some x)) g) h)

-- ---- by the request that was open
module _ {s : ClientSession} {old : List ℕ} {r : Called} (clock : RtmpTimestamp) (b : List ℕ)
    (k : Command) {m : ℕ} {x : Closed} (h : m ≡ held k.number) (e : x ≡ close_of s.requests (record { 0 = m })) where
  pub result-unknown : x.request ≡ None → r ≡ called (Ok (One (RaisedEvent (unknown_reply k)))) s
      → Comes s (result_to s clock b k (held k.number) (lookup (held k.number) s.requests.places)) old r old
  result-unknown a q = let u = unknown s.requests m x e a in rw (← h) (rw u.0 (raised-goes q))

  pub error-unknown : x.request ≡ None → r ≡ called (Ok (One (RaisedEvent (unknown_reply k)))) (with_requests s x.requests)
      → Comes s (error_to s clock b k (held k.number) (lookup (held k.number) s.requests.places)) old r old
  error-unknown a q = let u = unknown s.requests m x e a in rw (← h) (rw u.0 (raised-after (ap (with_requests s) u.1) q))

  module _ {y : Request} {v : OutstandingTransaction} {exit : List ℕ} (a : x.request ≡ Some y) (f : y.kind ≡ v) where
    pub result-known : (x.requests ≡ closed s.requests m → Comes s (result_of s clock b k m v y.text) old r exit)
        → Comes s (result_to s clock b k (held k.number) (lookup (held k.number) s.requests.places)) old r exit
    result-known d = let u = known s.requests m x e a in rw (← h) (rw u.request (rw f (d u.rest)))

    pub error_known : (x.requests ≡ closed s.requests m → Comes s (error_of s clock b k m v) old r exit)
        → Comes s (error_to s clock b k (held k.number) (lookup (held k.number) s.requests.places)) old r exit
    error_known d = let u = known s.requests m x e a in rw (← h) (rw u.request (rw f (d u.rest)))

-- a connect that was rejected, with the text of its description
pub rejected : {s : ClientSession} {old : List ℕ} {r : Called} (clock : RtmpTimestamp) (b : List ℕ) (k : Command) (n : ℕ) {t : (Option Span)} {q : Requests}
    → t ≡ text_of_property b (ascii "description") (properties_at (drop k.args b)) → q ≡ closed s.requests n
    → r ≡ called (Ok (One (RaisedEvent (ConnectionRequestRejected t)))) (with_requests s q) → Comes s (error_of s clock b k n ConnectionRequested) old r old
rejected {s} clock b k n e f q = rw (← e) (raised-after (ap (with_requests s) f) q)
