-- The caller's calls: what the plan of each comes to, case by case.
-- Assumes nothing.
use Prim.Native.Nat.{ℕ, ◌+◌, ◌≤◌, ◌<◌}
use native.Mathlib.Omega.{arith}
use mathlib.Core.Path.{◌≡◌, refl, sym, ap, ◌∙◌}
use mathlib.Core.Logic.{◌≢◌, ⊎_elim}
use mathlib.Core.Bool.{Bool, true, not}
use mathlib.Core.List.{List, [], ◌∷◌, append-nil}
use lib.Dec.{leb}
use lib.ListN.{length, length-append}
use borrow.Author.Tests.{leb-true, leb-false}
use Rattle.std.specs.Prelude.{Option, Some, None}
use Rattle.octets.proofs.BigEndianLaws.{length_digits}
use Rattle.amf0.specs.Places.{stretch}
use Rattle.messages.specs.declared.ids.RtmpTimestamp.{RtmpTimestamp}
use Rattle.messages.specs.declared.ids.StreamNumber.{StreamNumber}
use Rattle.messages.specs.declared.publish_request_type.PublishRequestType.{PublishRequestType}
use Rattle.messages.specs.declared.rtmp_message.UserControlEvent.TheVariants.{PingRequest}
use Rattle.messages.specs.declared.stream_metadata.StreamMetadata.{StreamMetadata}
use Rattle.bodies.specs.Bodies.{control_body, delete_stream_body}
use Rattle.bodies.specs.MetadataBody.{metadata_body}
use Rattle.requests.specs.Places.{open_count}
use Rattle.requests.specs.declared.outstanding_transaction.OutstandingTransaction.{OutstandingTransaction}
use Rattle.requests.proofs.BoolLaws.{by_cases}
use Rattle.session.specs.Calls.{Call, connect, play, publish, stop_playback, stop_publishing, ping, picture, sound, metadata, bytes, message, Message, plain, sends, nothing, one, pinged}
use Rattle.session.specs.Outcomes.{in_turn, sent_by, bodies, output}
use Rattle.session.specs.Plan.{go, Check, is_play, is_publish, is_publishing, unless_stage, if_long, if_large, if_spent, if_eight_open, connect_next, create_next, request, stop, stopped, published, published_on, ping_plan, count, counted_by}
use Rattle.session.specs.Record.{is_session}
use Rattle.session.specs.Step.{Stepped, fitted, plan, step}
use Rattle.session.specs.declared.errors.ClientSessionError.TheVariants.{SessionInInvalidState, NoKnownActiveStreamIdWhenRequired, Space, NotASession}
use Rattle.session.specs.declared.record.ClientSession.{ClientSession}
use Rattle.session.specs.declared.state.ClientState.{ClientState}
use Rattle.session.specs.declared.state.ClientState.TheVariants.{Publishing}
use Rattle.session_laws.specs.Order.{Row, ◌if◌}
use Rattle.session_laws.specs.Conditions.{stage, NoSession, next_above}
use Rattle.session_laws.specs.Space.{Takes, connects, plays, publishes, stops_playback, stops_publishing, sends_picture, sends_sound, sends_metadata, pings, acknowledges, Short}
use Rattle.session_laws.specs.Refusals.{asking, between}
use Rattle.session_laws.proofs.DecideLaws.{Decides, clash, true_false, decides-fits, decides_lt, decides_le, decides_disconnected, decides-connected, decides-publishing, decides_play, decides-publish}
use Rattle.session_laws.proofs.OrderLaws.{Fate, hit, miss, turned_unless, answer, checked, last, space}
use Rattle.session_laws.proofs.SessionLaws.{decides-session}

-- one message
pub one-length : (m : Message) → length (output (one (sends m))) ≡ length m.body
unfolding in_turn sent_by bodies
one-length m = rw (append-nil m.body)

ping-length : (clock : RtmpTimestamp) → length (output (pinged (plain 4 clock (control_body (PingRequest clock))) clock)) ≡ 6
unfolding in_turn sent_by bodies control_body
ping-length clock = simp (length-append, length_digits)

module _ (s : ClientSession) (clock : RtmpTimestamp) (old : List ℕ) where
  -- 13 in front
  pub thirteen : (c : Call) {rows : List Row} → (¬ (NoSession s) → Fate rows (answer s old (plan s clock c))) →
      Fate (NotASession if NoSession s ∷ rows) (step s clock c old).outcome
  unfolding step
  thirteen c k =
      let d = decides-session s in
      turned_unless (λ (x : Stepped). x.outcome) (is_session s) _ _ d refl (λ h. k (d.fails (ap not h)))

  -- a call that sends this message and nothing else
  sends-one : (c : Call) (m : Message) (after : ClientSession) →
      Takes s c (length m.body) → ((n : ℕ) → Takes s c n → n ≡ length m.body) →
      Fate (Space if Short s c old ∷ []) (answer s old (go (one (sends m)) after))
  sends-one c m after to only = space s old c (one (sends m)) after (λ l. rw (one-length m) to) (λ n w. only n w ∙ sym (one-length m))

  -- a call that sends nothing
  sends_none : (c : Call) (after : ClientSession) → ((n : ℕ) → ¬ (Takes s c n)) → Fate (Space if Short s c old ∷ []) (answer s old (go nothing after))
  unfolding in_turn sent_by bodies
  sends_none c after none = space s old c nothing after (λ l. absurd (omega arith)) (λ n w. absurd (none n w))

  decides-spent : ¬ (NoSession s) → Decides (leb 4294967296 s.requests.next) (s.requests.next ≡ 4294967296)
  decides-spent ok =
      record {
        holds = λ h.
            let m : ¬ (4294967296 < s.requests.next) = λ l. ok (next_above l) in omega (arith, leb-true 4294967296 s.requests.next h);
        fails = λ h e. omega (arith, leb-false 4294967296 s.requests.next h);
      }

  requested : (c : Call) (own : Check) (kind : OutstandingTransaction) (t body : List ℕ) {w : Type 0} → ¬ (NoSession s) → Decides own.when w →
      Takes s c (length body) → ((n : ℕ) → Takes s c n → n ≡ length body) →
      Fate (own.says if w ∷ asking s t (Space if Short s c old ∷ [])) (answer s old (request s clock own kind t body))
  unfolding request
  requested c own kind t body ok d to only =
      checked s old own _ _ d λ h.
      checked s old (if_long t) _ _ (decides-fits t) λ h.
      checked s old (if_spent s) _ _ (decides-spent ok) λ h.
      checked s old (if_eight_open s) _ _ (decides_le 8 (open_count s.requests.places)) λ h.
      last s old _ (sends-one c _ _ to only)

  -- a stop at its own stages
  module _ (c : Call) (own : ClientState → Bool) where
    record Stops (n : ℕ) : Type 0 where
      stream : StreamNumber
      here : own (stage s) ≡ true
      on : s.progress.active ≡ Some stream
      is : n ≡ length (delete_stream_body stream.0)

    module _ (to : (x : StreamNumber) → own (stage s) ≡ true → s.progress.active ≡ Some x → Takes s c (length (delete_stream_body x.0)))
        (only : (n : ℕ) → Takes s c n → Stops n) where
      stopped-on : (a : Option StreamNumber) → s.progress.active ≡ a → own (stage s) ≡ true →
          Fate (Space if Short s c old ∷ []) (answer s old (stopped s clock a))
      stopped-on None e h = sends_none c _ (λ n w. let o = (only n w).on in clash (cc))
      stopped-on (Some x) e h =
          sends-one c _ _ (to x h e)
          (λ n w. let o = (only n w).on in let q : (only n w).stream ≡ x = cc in (only n w).is ∙ ap (λ y. length (delete_stream_body y.0)) q)

      stops : Fate (Space if Short s c old ∷ []) (answer s old (stop s clock own))
      unfolding stop
      stops =
          by_cases (own (stage s)) (λ h. rw h (stopped-on s.progress.active refl h))
          (λ h. rw h (sends_none c s (λ n w. true_false (only n w).here h)))

  -- what is sent at Publishing on the active stream
  module _ (c : Call) (given : Check) (m : StreamNumber → Message) {w : Type 0} (d : Decides given.when w)
      (to : (x : StreamNumber) → Takes s c (length (m x).body)) (only : (x : StreamNumber) (n : ℕ) → Takes s c n → n ≡ length (m x).body) where
    -- 3, 9 and 12
    abbrev from3 : List Row
    from3 = NoKnownActiveStreamIdWhenRequired if (s.progress.active ≡ None) ∷ given.says if w ∷ Space if Short s c old ∷ []

    published-on : (a : Option StreamNumber) → s.progress.active ≡ a → Fate from3 (answer s old (published_on s clock given m a))
    unfolding fitted
    published-on None e = hit e refl
    published-on (Some x) e =
        miss (λ n. clash (cc)) (checked s old given _ _ d λ h. last s old _ (sends-one c _ _ (to x) (only x)))

    publishing : Fate (SessionInInvalidState (stage s) if (stage s ≢ Publishing) ∷ from3) (answer s old (published s clock given m))
    unfolding published
    publishing =
        checked s old (unless_stage is_publishing s) _ _ (decides-publishing (stage s)) λ h.
        last s old _ (published-on s.progress.active refl)

  -- a ping
  pinging : Fate (Space if Short s ping old ∷ []) (answer s old (ping_plan s clock))
  unfolding ping_plan
  pinging = space s old ping _ s (λ l. rw (ping-length clock) pings) (λ n w. only n w ∙ sym (ping-length clock))
    where
      only : (n : ℕ) → Takes s ping n → n ≡ 6
      only n pings = refl

  -- a byte count
  acknowledged : (n : ℕ) {m : ℕ} → Takes s (bytes n) m → (m ≡ 4) × ((w : ℕ) × (s.link.window ≡ Some w) × (w ≤ s.link.pending + n))
  acknowledged n (acknowledges _ w e l) = (refl, (w, e, l))

  counting-by : (n : ℕ) (o : Option ℕ) → s.link.window ≡ o → Fate (Space if Short s (bytes n) old ∷ []) (answer s old (counted_by s clock n o))
  counting-by n None e = sends_none (bytes n) _ (λ m w. let q = (acknowledged n w).1.1 in clash (cc))
  counting-by n (Some v) e =
      let p = s.link.pending + n in
      by_cases (leb v p)
      (λ h. rw h
      (sends-one (bytes n) _ _ (rw (length_digits 4 _) (acknowledges n v e (leb-true v p h))) (λ m w. (acknowledged n w).0 ∙ sym (length_digits 4 _))))
      (λ h. rw h
      (sends_none (bytes n) _ (λ m w.
      let q = (acknowledged n w).1.1 in
      let r : (acknowledged n w).1.0 ≡ v = cc in omega (arith, (acknowledged n w).1.2, leb-false v p h))))

  counting : (n : ℕ) → Fate (Space if Short s (bytes n) old ∷ []) (answer s old (count s clock n))
  unfolding count
  counting n = counting-by n s.link.window refl

  -- each call, between 13 and 12
  only_connect : (app : List ℕ) (n : ℕ) → Takes s (connect app) n → n ≡ length (connect_next s app)
  only_connect app n (connects _) = refl

  only_play : (key : List ℕ) (n : ℕ) → Takes s (play key) n → n ≡ length (create_next s)
  only_play key n (plays _) = refl

  only-publish : (key : List ℕ) (t : PublishRequestType) (n : ℕ) → Takes s (publish key t) n → n ≡ length (create_next s)
  only-publish key t n (publishes _ _) = refl

  only_picture : (b : List ℕ) (t : RtmpTimestamp) (d : Bool) (n : ℕ) → Takes s (picture b t d) n → n ≡ length b
  only_picture b t d n (sends_picture _ _ _) = refl

  only-sound : (b : List ℕ) (t : RtmpTimestamp) (d : Bool) (n : ℕ) → Takes s (sound b t d) n → n ≡ length b
  only-sound b t d n (sends_sound _ _ _) = refl

  only-metadata : (m : StreamMetadata) (text : List ℕ) (n : ℕ) → Takes s (metadata m text) n → n ≡ length (metadata_body text m)
  only-metadata m text n (sends_metadata _ _) = refl

  only-stop-playback : (n : ℕ) → Takes s stop_playback n → Stops stop_playback is_play n
  only-stop-playback n (stops_playback x h e) =
      record { stream = x; here = ⊎_elim (λ q. ap is_play q) (λ q. ap is_play q) h; on = e; is = refl }

  only-stop-publishing : (n : ℕ) → Takes s stop_publishing n → Stops stop_publishing is_publish n
  only-stop-publishing n (stops_publishing x h e) =
      record { stream = x; here = ⊎_elim (λ q. ap is_publish q) (λ q. ap is_publish q) h; on = e; is = refl }

  -- between 13 and 12, and 12
  abbrev Walk : Call → Type 0
  Walk c = Fate (between s c (Space if Short s c old ∷ [])) (answer s old (plan s clock c))

  pub walked : (c : Call) → ¬ (NoSession s) → ((k : ℕ) (t : RtmpTimestamp) (x : StreamNumber) (b : List ℕ) → Walk (message k t x b)) → Walk c
  unfolding plan
  walked (connect app) ok others = requested (connect app) _ _ app _ ok (decides_disconnected (stage s)) (connects app) (only_connect app)
  walked (play key) ok others = requested (play key) _ _ key _ ok (decides-connected (stage s)) (plays key) (only_play key)
  walked (publish key t) ok others =
      requested (publish key t) _ _ key _ ok (decides-connected (stage s)) (publishes key t) (only-publish key t)
  walked stop_playback ok others =
      stops stop_playback is_play (λ x h e. stops_playback x ((decides_play (stage s)).holds h) e) only-stop-playback
  walked stop_publishing ok others =
      stops stop_publishing is_publish (λ x h e. stops_publishing x ((decides-publish (stage s)).holds h) e) only-stop-publishing
  walked ping ok others = pinging
  walked (picture b t d) ok others =
      publishing (picture b t d) (if_large b) _ (decides_lt 16777215 (length b)) (λ x. sends_picture b t d) (λ x. only_picture b t d)
  walked (sound b t d) ok others =
      publishing (sound b t d) (if_large b) _ (decides_lt 16777215 (length b)) (λ x. sends_sound b t d) (λ x. only-sound b t d)
  walked (metadata m text) ok others =
      let encoder = stretch text m.encoder in
      publishing (metadata m text) (if_long encoder) _ (decides-fits encoder) (λ x. sends_metadata m text) (λ x. only-metadata m text)
  walked (bytes n) ok others = counting n
  walked (message k t x b) ok others = others k t x b
