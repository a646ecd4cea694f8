-- What a message that came does to the session.
-- Assumes nothing.
use Prim.Native.Nat.{ℕ}
use native.Mathlib.Omega.{arith}
use mathlib.Core.Path.{◌≡◌, refl, sym, ◌∙◌}
use mathlib.Core.Logic.{◌≢◌, inr, ⊎_elim}
use mathlib.Core.Bool.{true, false, or-true}
use mathlib.Core.List.{List}
use lib.Dec.{eqb}
use lib.ListN.{drop}
use lib.Ieee.Casts.{to_unsigned-lt}
use lib.Ieee.{binary64, of_bits}
use borrow.Author.Tests.{eq-eqb, ne_eqb, not-false}
use Rattle.std.specs.Prelude.{Option, Some, None}
use Rattle.octets.specs.Parse.{place_of}
use Rattle.numbers.specs.Numbers.{held}
use Rattle.messages.specs.Incoming.{Incoming, malformed, set_chunk_size, abort, acknowledgement, window_size, peer_bandwidth, user_control, command, values, audio, video, unknown, Command, decode}
use Rattle.messages.specs.Notice.{code_at}
use Rattle.messages.specs.Places.{name_of, first_of, command_at, data_at, placed}
use Rattle.messages.specs.declared.ids.RtmpTimestamp.{RtmpTimestamp}
use Rattle.messages.specs.declared.ids.StreamNumber.{StreamNumber}
use Rattle.messages.specs.declared.on_status.OnStatus.{OnStatus}
use Rattle.messages.specs.declared.on_status.OnStatus.TheVariants as status
use Rattle.messages.specs.declared.rtmp_message.Argument.{Argument}
use Rattle.messages.specs.declared.rtmp_message.Argument.TheVariants as argument
use Rattle.messages.specs.declared.rtmp_message.CommandName.{CommandName}
use Rattle.messages.specs.declared.rtmp_message.CommandName.TheVariants as name
use Rattle.messages.specs.declared.rtmp_message.DataMessage.{DataMessage}
use Rattle.messages.specs.declared.rtmp_message.DataMessage.TheVariants as said
use Rattle.messages.specs.declared.rtmp_message.UserControlEvent.{UserControlEvent}
use Rattle.messages.specs.declared.rtmp_message.UserControlEvent.TheVariants.{StreamBegin, StreamEof, StreamDry, SetBufferLength, StreamIsRecorded, PingRequest, PingResponse}
use Rattle.requests.specs.Places.{lookup}
use Rattle.requests.specs.declared.place.Request.{Request}
use Rattle.requests.specs.Table.{closed}
use Rattle.requests.specs.declared.outstanding_transaction.OutstandingTransaction.{OutstandingTransaction}
use Rattle.requests.specs.declared.outstanding_transaction.OutstandingTransaction.TheVariants.{ConnectionRequested, CreateStream}
use Rattle.requests.specs.declared.outstanding_transaction.TransactionPurpose.{TransactionPurpose}
use Rattle.requests.specs.declared.outstanding_transaction.TransactionPurpose.TheVariants.{PlayRequest, PublishRequest}
use Rattle.requests.specs.declared.table.Requests.{Requests}
use Rattle.requests.proofs.BoolLaws.{by_cases}
use Rattle.requests.proofs.TableLaws.{length-closed, closed-sound, closed-open}
use Rattle.session.specs.Calls.{Call, connect, play, publish, stop_playback, stop_publishing, ping, picture, sound, metadata, bytes, message, Results, nothing}
use Rattle.session.specs.Message.{stream_number, is_play_requested, is_publish_requested, is_active, after_closing, granted, result_of, error_of, result_to, error_to, noticed, command_of, if_active, media_in, data_in, control_in, window_in, chunk_in, on_message}
use Rattle.session.specs.Outcomes.{in_turn, sent_by}
use Rattle.session.specs.Plan.{close, if_large, is_play, is_publish, unless_stage}
use Rattle.session.specs.Step.{plan}
use Rattle.session.specs.declared.errors.ClientSessionError.{ClientSessionError}
use Rattle.session.specs.declared.errors.ClientSessionError.TheVariants.{CreateStreamFailed, CreateStreamResponseHadNoStreamNumber}
use Rattle.session.specs.declared.events.ClientSessionEvent.{ClientSessionEvent}
use Rattle.session.specs.declared.record.ClientSession.{ClientSession}
use Rattle.session.specs.declared.record.Progress.{Progress}
use Rattle.session.specs.declared.state.ClientState.{ClientState}
use Rattle.session.specs.declared.state.ClientState.TheVariants.{Disconnected, Connected, PlayRequested, Playing, PublishRequested, Publishing}
use Rattle.session_laws.specs.Acknowledged.{sum, is_set}
use Rattle.session_laws.specs.Kept.{closes, ClosesBy, reply}
use Rattle.session_laws.specs.Sound.{Streamed}
use Rattle.session_laws.proofs.DecideLaws.{clash, is-play-requested, is-publish-requested}
use Rattle.session_laws.proofs.MoveLaws.{Tabled, Moved, Good, good_check, good-last, Quiet, no-count, quiet, same, requested, stops, publishes, pings, counting}
use Rattle.session_laws.proofs.WindowLaws.{is_window, is_bad, sets-window, window_below}

closed-tabled : (r : Requests) (n : ℕ) → Tabled r → Tabled (closed r n)
closed-tabled r n h = record { sound = closed-sound r n h.sound; eight = length-closed r n ∙ h.eight }

closed-next : (r : Requests) (n : ℕ) → (closed r n).next ≡ r.next
unfolding closed
closed-next r n = refl

-- at Connected any active stream may stay
connected : (p : Progress) → Streamed p → Streamed (record { state = Connected; active = p.active })
connected p h = record { below = h.below; idle = λ e. inr refl }

-- a grant's stream
granted-stream : (g : ClientState) (v : ℕ) → Streamed (record { state = g; active = Some (record { 0 = held v }) })
granted-stream g v = record { below = λ x e. let q : x.0 ≡ held v = cc in rw q (to_unsigned-lt 32 (of_bits binary64 v)); idle = λ e. clash (cc) }

-- from a stage with a stream to another
onward : (p : Progress) (g : ClientState) → (p.state ≢ Disconnected) → (p.state ≢ Connected) →
    Streamed p → Streamed (record { state = g; active = p.active })
onward p g n m h = record { below = h.below; idle = λ e. absurd (⊎_elim n m (h.idle e)) }

module _ (s : ClientSession) (clock : RtmpTimestamp) (k : ℕ) (t : RtmpTimestamp) (x : StreamNumber) (b : List ℕ) where
  abbrev it : Call
  it = message k t x b

  closing : {c : Command} {q : Request} → decode k b ≡ command c → lookup (held c.number) s.requests.places ≡ Some q →
      ClosesBy s it (after_closing s clock b (held c.number))
  closing {c} {q} e f =
      let n : ℕ = held c.number in
      reply k t x b c _ e
      (record {
        request = q;
        open_before = f;
        closed_after = closed-open s.requests n n ∙ rw (eq-eqb n n refl);
        others_stay = λ m d. closed-open s.requests n m ∙ rw (ne_eqb n m (λ h. d (sym h)));
        next_stays = closed-next s.requests n;
        config_stays = refl;
        progress_stays = refl;
        link_stays = refl;
      })

  module _ (other : eqb k 5 ≡ false) where
    still : Quiet it
    still = record { asks_none = refl; counts_none = refl; sets_none = other }

    kept : (rs : Results) → sum (sent_by (in_turn rs)) ≡ 0 → Moved s it rs s
    kept rs z = same s it rs still z

    -- with the request closed
    answered : (rs : Results) (n : ℕ) (p : Progress) → sum (sent_by (in_turn rs)) ≡ 0 → (Streamed s.progress → Streamed p) →
        Moved s it rs (record { config = s.config; progress = p; requests = closed s.requests n; link = s.link })
    answered rs n p z f =
        quiet s it rs p (closed s.requests n) s.link.chunk still z f (closed-tabled s.requests n) (closed-next s.requests n)

    -- refusals 4 and 5
    shut : (d : ClientSessionError) {c : Command} {q : Request} → decode k b ≡ command c →
        lookup (held c.number) s.requests.places ≡ Some q → closes d ≡ true →
        Good s it (close d (after_closing s clock b (held c.number)))
    unfolding sum in_turn sent_by
    shut d {c} e f h = (h, closing e f, answered nothing (held c.number) s.progress refl (λ r. r))

    module _ {c : Command} (e : decode k b ≡ command c) where
      granting : {q : Request} (p : TransactionPurpose) → lookup (held c.number) s.requests.places ≡ Some q → (a : Option Argument) →
          Good s it (granted s clock b (held c.number) p q.text (stream_number a))
      unfolding sum in_turn sent_by
      granting PlayRequest f (Some (argument.Number v)) = answered _ (held c.number) _ refl (λ h. granted-stream PlayRequested v)
      granting (PublishRequest p) f (Some (argument.Number v)) = answered _ (held c.number) _ refl (λ h. granted-stream PublishRequested v)
      granting p f None = shut CreateStreamResponseHadNoStreamNumber e f refl
      granting p f (Some argument.Object) = shut CreateStreamResponseHadNoStreamNumber e f refl
      granting p f (Some argument.Other) = shut CreateStreamResponseHadNoStreamNumber e f refl

      resulting_of : {q : Request} → lookup (held c.number) s.requests.places ≡ Some q → (kd : OutstandingTransaction) →
          Good s it (result_of s clock b (command_at b c) (held c.number) kd q.text)
      unfolding sum in_turn sent_by
      resulting_of f ConnectionRequested = answered _ (held c.number) _ refl (connected s.progress)
      resulting_of f (CreateStream p) = granting p f (first_of c.args)

      failing_of : {q : Request} → lookup (held c.number) s.requests.places ≡ Some q → (kd : OutstandingTransaction) →
          Good s it (error_of s clock b (command_at b c) (held c.number) kd)
      unfolding sum in_turn sent_by
      failing_of f ConnectionRequested = answered _ (held c.number) s.progress refl (λ h. h)
      failing_of f (CreateStream p) = shut CreateStreamFailed e f refl

      replying : (o : Option Request) → lookup (held c.number) s.requests.places ≡ o →
          Good s it (result_to s clock b (command_at b c) (held c.number) o) × Good s it (error_to s clock b (command_at b c) (held c.number) o)
      unfolding sum in_turn sent_by
      replying None f = (kept _ refl, kept _ refl)
      replying (Some q) f = (resulting_of f q.kind, failing_of f q.kind)

      noticing : (g : Option OnStatus) → Good s it (noticed s clock b g)
      unfolding sum in_turn sent_by
      noticing None = refl
      noticing (Some (status.Other p)) = kept _ refl
      noticing (Some status.PlayStart) =
          good_check s it (unless_stage is_play_requested s) _ _ refl λ h.
          let g = is-play-requested s.progress.state (not-false _ h) in
          good-last s it _ (quiet s it _ _ _ _ still refl (onward s.progress Playing (λ d. clash (cc)) (λ d. clash (cc))) (λ r. r) refl)
      noticing (Some status.PublishStart) =
          good_check s it (unless_stage is_publish_requested s) _ _ refl λ h.
          let g = is-publish-requested s.progress.state (not-false _ h) in
          good-last s it _ (quiet s it _ _ _ _ still refl (onward s.progress Publishing (λ d. clash (cc)) (λ d. clash (cc))) (λ r. r) refl)

      commanding : (nm : CommandName) → Good s it (command_of s clock b (command_at b c) nm)
      unfolding sum in_turn sent_by
      commanding name.Result = (replying _ refl).0
      commanding name.Error = (replying _ refl).1
      commanding name.OnStatus = noticing (code_at b (drop (place_of b c.from_args) b))
      commanding name.Other = kept _ refl

    heard : (v : ClientSessionEvent) → Good s it (if_active s clock b x v)
    unfolding sum in_turn sent_by
    heard v = by_cases (is_active s.progress.active x) (λ h. rw h (kept _ refl)) (λ h. rw h (kept _ refl))

    media : (v : ClientSessionEvent) → Good s it (media_in s clock b x v)
    media v = good_check s it (unless_stage is_play s) _ _ refl λ h. good-last s it _ (heard v)

    told : (d : DataMessage) → Good s it (data_in s clock b x d)
    unfolding sum in_turn sent_by
    told (said.OnMetaData p) = heard _
    told said.Other = kept _ refl

    control : (v : UserControlEvent) → Good s it (control_in s clock b v)
    unfolding sum in_turn sent_by
    control (PingRequest at) = kept _ refl
    control (PingResponse at) = kept _ refl
    control (StreamBegin y) = kept _ refl
    control (StreamEof y) = kept _ refl
    control (StreamDry y) = kept _ refl
    control (SetBufferLength y n) = kept _ refl
    control (StreamIsRecorded y) = kept _ refl

    sized : (n : ℕ) → Good s it (chunk_in s clock b n)
    unfolding sum in_turn sent_by
    sized n = good_check s it _ _ _ refl λ h. good-last s it _ (quiet s it _ s.progress s.requests n still refl (λ r. r) (λ r. r) refl)

  windowed : (n : ℕ) → eqb k 5 ≡ true → decode k b ≡ window_size n → Good s it (window_in s clock b n)
  unfolding sum in_turn sent_by
  windowed n h e =
      record {
        config = refl;
        streamed = λ h. h;
        requests = λ h. h;
        next = omega arith;
        total = λ h. h;
        within = λ o w. record { window_below = λ v q. let r : v ≡ n = cc in rw r (window_below k b o e); pending_below = w.pending_below };
        sums = rw (no-count (is_set s.link.window) 0 refl) (omega arith);
        sets = rw h (sym (or-true (is_set s.link.window)));
      }

  arriving : (i : Incoming) → decode k b ≡ i → (is_bad i ≡ false → is_window i ≡ eqb k 5) → Good s it (on_message s clock b k t x (placed b i))
  unfolding on_message placed sum in_turn sent_by
  arriving malformed e w = refl
  arriving (set_chunk_size n) e w = sized (sym (w refl)) n
  arriving (abort n) e w = kept (sym (w refl)) _ refl
  arriving (acknowledgement n) e w = kept (sym (w refl)) _ refl
  arriving (window_size n) e w = windowed n (sym (w refl)) e
  arriving (peer_bandwidth n l) e w = kept (sym (w refl)) _ refl
  arriving (user_control v) e w = control (sym (w refl)) v
  arriving (command c) e w = commanding (sym (w refl)) e (name_of c.name)
  arriving (values d) e w = told (sym (w refl)) (data_at (place_of b d.after_first) d.values)
  arriving audio e w = media (sym (w refl)) _
  arriving video e w = media (sym (w refl)) _
  arriving unknown e w = kept (sym (w refl)) _ refl

  came : Good s it (plan s clock it)
  unfolding plan
  came = good_check s it (if_large b) _ _ refl λ h. good-last s it _ (arriving (decode k b) refl (sets-window k b))

-- every call
pub good : (s : ClientSession) (clock : RtmpTimestamp) (c : Call) → Good s c (plan s clock c)
unfolding plan sum
good s clock (connect app) = requested s clock (connect app) _ _ app _ refl refl refl refl
good s clock (play key) = requested s clock (play key) _ _ key _ refl refl refl refl
good s clock (publish key t) = requested s clock (publish key t) _ _ key _ refl refl refl refl
good s clock stop_playback = stops s clock stop_playback (record { asks_none = refl; counts_none = refl; sets_none = refl }) is_play
good s clock stop_publishing = stops s clock stop_publishing (record { asks_none = refl; counts_none = refl; sets_none = refl }) is_publish
good s clock ping = pings s clock ping (record { asks_none = refl; counts_none = refl; sets_none = refl })
good s clock (picture b t d) =
    publishes s clock (picture b t d) (record { asks_none = refl; counts_none = refl; sets_none = refl }) _ _ refl (λ x. refl)
good s clock (sound b t d) =
    publishes s clock (sound b t d) (record { asks_none = refl; counts_none = refl; sets_none = refl }) _ _ refl (λ x. refl)
good s clock (metadata m text) =
    publishes s clock (metadata m text) (record { asks_none = refl; counts_none = refl; sets_none = refl }) _ _ refl (λ x. refl)
good s clock (bytes n) = counting s clock n
good s clock (message k t x b) = came s clock k t x b
