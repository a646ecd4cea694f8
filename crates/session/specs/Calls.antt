-- The calls with their arguments, the messages that they send, and what they result in.
-- Assumes nothing.
use Rattle.std.specs.Prelude.{ℕ, Bool, false, List}
use Rattle.messages.specs.declared.ids.RtmpTimestamp.{RtmpTimestamp}
use Rattle.messages.specs.declared.ids.StreamNumber.{StreamNumber}
use Rattle.messages.specs.declared.publish_request_type.PublishRequestType.{PublishRequestType}
use Rattle.messages.specs.declared.stream_metadata.StreamMetadata.{StreamMetadata}
use Rattle.session.specs.declared.events.ClientSessionEvent.{ClientSessionEvent}

pub data Call : Type 0 where
  -- an app name; a stream key
  connect play : List ℕ → Call
  publish : List ℕ → PublishRequestType → Call
  stop_playback stop_publishing ping : Call
  -- the body, the caller's time, whether it may be dropped
  picture sound : List ℕ → RtmpTimestamp → Bool → Call
  -- the fields, and the bytes that the encoder's text lies in
  metadata : StreamMetadata → List ℕ → Call
  -- a count of bytes that came
  bytes : ℕ → Call
  -- a message that came: type, time, stream number, body
  message : ℕ → RtmpTimestamp → StreamNumber → List ℕ → Call

-- an outbound message (document 01)
pub record Message : Type 0 where
  pub type_id : ℕ
  pub time : RtmpTimestamp
  pub stream : StreamNumber
  pub droppable : Bool
  pub uncompressed : Bool
  pub body : List ℕ

-- stream number and flags are 0 unless said
abbrev pub plain : ℕ → RtmpTimestamp → List ℕ → Message
plain k time b = record { type_id = k; time = time; stream = record { 0 = 0 }; droppable = false; uncompressed = false; body = b }

abbrev pub on_stream : ℕ → RtmpTimestamp → StreamNumber → List ℕ → Message
on_stream k time x b = record { type_id = k; time = time; stream = x; droppable = false; uncompressed = false; body = b }

pub data Result : Type 0 where
  sends : Message → Result
  raises : ClientSessionEvent → Result
  -- a message that the session doesn't handle, by its type
  unhandled : ℕ → Result

-- the results of a call: no call has more than three
pub data Results : Type 0 where
  nothing : Results
  one : Result → Results
  two : Message → Message → Results
  -- a message, the event that a connect was accepted, a message
  accepts : Message → Message → Results
  -- a ping hands its time back beside its message
  pinged : Message → RtmpTimestamp → Results
