-- From what the code for a message that came found and wrote to what its plan comes to: an event, a message that isn't handled, a request closed
-- with a refusal, messages written one after the other.
-- Assumes nothing.
use Rattle.std.specs.Prelude.{Ok, ◌⊎◌, Result, Option}
use mathlib.Core.Logic.{inl, inr}
use Rattle.std.proofs.Common.{◌≡◌, ◌≢◌, ℕ, Bool, true, false, eqb, List, length, drop, sym, refl, ◌∙◌, arith, le-ltb}
use native.Mathlib.Omega.{arith}
use Rattle.amf0.specs.declared.read.Malformed.{Malformed}
use Rattle.messages.specs.Incoming.{decode}
use Rattle.messages.specs.Metadata.{metadata_at}
use Rattle.messages.specs.Places.{placed}
use Rattle.messages.specs.declared.ids.RtmpTimestamp.{RtmpTimestamp}
use Rattle.messages.specs.declared.ids.StreamNumber.{StreamNumber}
use Rattle.messages.specs.declared.on_status.OnStatus.{OnStatus}
use Rattle.messages.specs.declared.rtmp_message.Command.{Command}
use Rattle.messages.specs.declared.rtmp_message.CommandName.{CommandName}
use Rattle.messages.specs.declared.rtmp_message.DataMessage.{DataMessage}
use Rattle.messages.specs.declared.rtmp_message.DataMessage.TheVariants as said
use Rattle.messages.specs.declared.rtmp_message.PeerBandwidthLimitType.{PeerBandwidthLimitType}
use Rattle.messages.specs.declared.rtmp_message.RtmpMessage.{RtmpMessage}
use Rattle.messages.specs.declared.rtmp_message.RtmpMessage.TheVariants as message
use Rattle.messages.specs.declared.rtmp_message.UserControlEvent.{UserControlEvent}
use Rattle.messages.specs.declared.rtmp_message.UserControlEvent.TheVariants as event
use Rattle.messages.specs.declared.stream_metadata.StreamMetadata.{StreamMetadata}
use Rattle.session.specs.Calls.{raises, unhandled, nothing, one}
use Rattle.session.specs.Outcomes.{in_turn, sent_by, bodies, outcome_of}
use Rattle.session.specs.Plan.{go, close as closing}
use Rattle.session.specs.Step.{away as turned, fitted}
use Rattle.session.specs.Message.{is_active, media_type, if_active, media_in, data_in, control_in, noticed, command_of, on_message}
use Rattle.session.specs.Comes.{Comes, refused_with, quiet}
use Rattle.session.specs.declared.errors.ClientSessionError.{ClientSessionError}
use Rattle.session.specs.declared.events.ClientSessionEvent.{ClientSessionEvent}
use Rattle.session.specs.declared.events.ClientSessionEvent.TheVariants.{StreamMetadataReceived, VideoDataReceived, AudioDataReceived}
use Rattle.session.specs.declared.record.Called.{Called}
use Rattle.session.specs.declared.record.ClientSession.{ClientSession}
use Rattle.session.specs.declared.result.ClientSessionResult.TheVariants.{RaisedEvent, UnhandleableMessageReceived}
use Rattle.session.specs.declared.result.Outcome.TheVariants.{One}
use Rattle.session.proofs.StepLaws.{comes-to, quiet-goes}

module _ {s : ClientSession} {old : List ℕ} {r : Called} where
  -- turned away with a request closed
  pub closed-away : {e : ClientSessionError} {after : ClientSession} → r ≡ refused_with after e → Comes s (closing e after) old r old
  unfolding fitted
  closed-away {e} {after} q = comes-to (turned e after old) refl q refl

  -- an event alone
  pub raised-goes : {after : ClientSession} {e : ClientSessionEvent}
      → r ≡ record { outcome = Ok (One (RaisedEvent e)); session = after } → Comes s (go (one (raises e)) after) old r old
  unfolding fitted in_turn sent_by bodies outcome_of
  raised-goes {after} {e} q =
      comes-to (record { outcome = Ok (One (RaisedEvent e)); session = after; output = old }) (rw (le-ltb (length old) 0 (omega arith))) q refl

  -- a message that isn't handled
  pub unhandled-goes : {after : ClientSession} {k : ℕ}
      → r ≡ record { outcome = Ok (One (UnhandleableMessageReceived k)); session = after } → Comes s (go (one (unhandled k)) after) old r old
  unfolding fitted in_turn sent_by bodies outcome_of
  unhandled-goes {after} {k} q =
      comes-to (record { outcome = Ok (One (UnhandleableMessageReceived k)); session = after; output = old }) (rw (le-ltb (length old) 0 (omega arith))) q refl

  pub closed_after : {e : ClientSessionError} {a after : ClientSession} → a ≡ after → r ≡ refused_with a e → Comes s (closing e after) old r old
  closed_after f q = rw (← f) (closed-away q)

  -- an event, and the session after
  pub raised-after : {a after : ClientSession} {e : ClientSessionEvent}
      → a ≡ after → r ≡ record { outcome = Ok (One (RaisedEvent e)); session = a } → Comes s (go (one (raises e)) after) old r old
  raised-after e q = rw (← e) (raised-goes q)

  -- a message on the active stream, or on another one
  module _ (clock : RtmpTimestamp) (b : List ℕ) (x : StreamNumber) (e : ClientSessionEvent) {t : Bool} where
    pub on-active : t ≡ is_active s.progress.active x → t ≡ true
        → r ≡ record { outcome = Ok (One (RaisedEvent e)); session = s } → Comes s (if_active s clock b x e) old r old
    on-active f h q = let g : is_active s.progress.active x ≡ true = sym f ∙ h in rw g (raised-goes q)

    pub on_other : t ≡ is_active s.progress.active x → t ≡ false → r ≡ quiet s → Comes s (if_active s clock b x e) old r old
    on_other f h q = let g : is_active s.progress.active x ≡ false = sym f ∙ h in rw g (quiet-goes q)

  -- by the variant of what was read
  module _ (clock : RtmpTimestamp) (b : List ℕ) {exit : List ℕ} where
    pub metadata-in : (x : StreamNumber) {d : DataMessage} {p : ℕ} {m : StreamMetadata} → d ≡ said.OnMetaData p → m ≡ metadata_at b (drop p b)
        → Comes s (if_active s clock b x (StreamMetadataReceived m)) old r exit → Comes s (data_in s clock b x d) old r exit
    metadata-in x e f h = rw (e, ← f) h

    pub others_in : (x : StreamNumber) {d : DataMessage} → d ≡ said.Other → Comes s (go nothing s) old r exit → Comes s (data_in s clock b x d) old r exit
    others_in x e h = rw e h

    pub notice-is : {w n v : Option OnStatus} → n ≡ w → n ≡ v → Comes s (noticed s clock b v) old r exit → Comes s (noticed s clock b w) old r exit
    notice-is f e h = rw (← f, e) h

    pub command-is : (k : Command) {n v : CommandName} → n ≡ v → Comes s (command_of s clock b k v) old r exit → Comes s (command_of s clock b k n) old r exit
    command-is k e h = rw e h

    pub message-is : (k : ℕ) (t : RtmpTimestamp) (x : StreamNumber) {m v : RtmpMessage}
        → m ≡ v → Comes s (on_message s clock b k t x (Ok v)) old r exit → Comes s (on_message s clock b k t x (Ok m)) old r exit
    message-is k t x e h = rw e h

    pub read-is : (k : ℕ) (t : RtmpTimestamp) (x : StreamNumber) {m v : Result RtmpMessage Malformed}
        → m ≡ v → Comes s (on_message s clock b k t x v) old r exit → Comes s (on_message s clock b k t x m) old r exit
    read-is k t x e h = rw e h

    -- a message that the session doesn't handle
    pub unhandled-is : (k : ℕ) (t : RtmpTimestamp) (x : StreamNumber) {m : RtmpMessage}
        → (m ≡ message.Unknown) ⊎ (((n : ℕ) × (m ≡ message.Abort n)) ⊎ ((n : ℕ) × (l : PeerBandwidthLimitType) × (m ≡ message.SetPeerBandwidth n l)))
        → Comes s (go (one (unhandled k)) s) old r exit → Comes s (on_message s clock b k t x (Ok m)) old r exit
    unfolding on_message
    unhandled-is k t x (inl e) h = rw e h
    unhandled-is k t x (inr (inl (n, e))) h = rw e h
    unhandled-is k t x (inr (inr (n, l, e))) h = rw e h

    -- sound by its type, and else a picture
    module _ (k : ℕ) (t : RtmpTimestamp) (x : StreamNumber) where
      pub sound-is : eqb k 8 ≡ true
          → Comes s (media_in s clock b x (AudioDataReceived t)) old r exit
          → Comes s (on_message s clock b (media_type k) t x (placed b (decode (media_type k) b))) old r exit
      unfolding on_message decode placed
      sound-is e h = rw e h

      pub picture-is : eqb k 8 ≡ false
          → Comes s (media_in s clock b x (VideoDataReceived t)) old r exit
          → Comes s (on_message s clock b (media_type k) t x (placed b (decode (media_type k) b))) old r exit
      unfolding on_message decode placed
      picture-is e h = rw e h

    -- an event that the session doesn't handle
    pub control_quiet : (e : UserControlEvent) → ((t : RtmpTimestamp) → e ≢ event.PingRequest t) → ((t : RtmpTimestamp) → e ≢ event.PingResponse t)
        → Comes s (go nothing s) old r exit → Comes s (control_in s clock b e) old r exit
    control_quiet (event.PingRequest t) f g h = absurd (f t refl)
    control_quiet (event.PingResponse t) f g h = absurd (g t refl)
    control_quiet (event.StreamBegin x) f g h = h
    control_quiet (event.StreamEof x) f g h = h
    control_quiet (event.StreamDry x) f g h = h
    control_quiet (event.SetBufferLength x n) f g h = h
    control_quiet (event.StreamIsRecorded x) f g h = h

    pub control-is : {e v : UserControlEvent} → e ≡ v → Comes s (control_in s clock b v) old r exit → Comes s (control_in s clock b e) old r exit
    control-is e h = rw e h
