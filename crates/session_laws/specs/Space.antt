-- 12: how many bytes all bodies of an outcome take together. A call or message that isn't named here sends nothing.
-- Assumes nothing.
use Rattle.std.specs.Prelude.{ℕ, ◌+◌, ◌≤◌, ◌<◌, ◌≡◌, ◌⊎◌, Bool, List, length, is_some, Some}
use Rattle.octets.specs.Compare.{ascii}
use Rattle.amf0.specs.Value.{number, Values, cons}
use Rattle.messages.specs.Incoming.{decode, user_control, Command}
use Rattle.messages.specs.declared.ids.RtmpTimestamp.{RtmpTimestamp}
use Rattle.messages.specs.declared.ids.StreamNumber.{StreamNumber}
use Rattle.messages.specs.declared.publish_request_type.PublishRequestType.{PublishRequestType}
use Rattle.messages.specs.declared.rtmp_message.UserControlEvent.TheVariants.{PingRequest}
use Rattle.messages.specs.declared.stream_metadata.StreamMetadata.{StreamMetadata}
use Rattle.bodies.specs.Bodies.{connect_body, create_stream_body, delete_stream_body, play_body, publish_body}
use Rattle.bodies.specs.MetadataBody.{metadata_body}
use Rattle.requests.specs.Texts.{text_of}
use Rattle.requests.specs.Places.{}
use Rattle.requests.specs.declared.place.Request.{Request}
use Rattle.requests.specs.declared.outstanding_transaction.OutstandingTransaction.TheVariants.{ConnectionRequested, CreateStream}
use Rattle.requests.specs.declared.outstanding_transaction.TransactionPurpose.TheVariants.{PlayRequest, PublishRequest}
use Rattle.session.specs.Record.{url_of}
use Rattle.session.specs.Calls.{Call, connect, play, publish, stop_playback, stop_publishing, ping, picture, sound, metadata, bytes, message}
use Rattle.session.specs.declared.record.ClientSession.{ClientSession}
use Rattle.session.specs.declared.state.ClientState.TheVariants.{PlayRequested, Playing, PublishRequested, Publishing}
use Rattle.session_laws.specs.Conditions.{stage, Named, RepliesTo}

-- a message of type k with the body b that is answered, and how many bytes the answer takes
pub data Answers (s : ClientSession) (k : ℕ) (b : List ℕ) : ℕ → Type 0 where
  -- `_result` to an open connect: window size and chunk size
  accepts : (c : Command) (q : Request) → Named k b (ascii "_result") c → RepliesTo s c q ConnectionRequested → Answers s k b 8
  -- a grant: SetBufferLength and `play`
  grants_play :
      (c : Command) (q : Request) (n : ℕ) (others : Values) →
      Named k b (ascii "_result") c → RepliesTo s c q (CreateStream PlayRequest) → c.args ≡ cons (number n) others →
      Answers s k b (10 + length (play_body (text_of q.text)))
  -- a grant: `publish`
  grants_publish :
      (c : Command) (q : Request) (t : PublishRequestType) (n : ℕ) (others : Values) →
      Named k b (ascii "_result") c → RepliesTo s c q (CreateStream (PublishRequest t)) → c.args ≡ cons (number n) others →
      Answers s k b (length (publish_body (text_of q.text) t))
  -- the peer's ping
  responds : (t : RtmpTimestamp) → decode k b ≡ user_control (PingRequest t) → Answers s k b 6

-- a connect has the stored texts in it
abbrev pub connect_size : ClientSession → List ℕ → ℕ
connect_size s app =
    length
    (connect_body s.requests.next app (text_of s.config.flash_version) (is_some s.config.tc_url) (url_of s.config.tc_url))

pub data Takes (s : ClientSession) : Call → ℕ → Type 0 where
  connects : (app : List ℕ) → Takes s (connect app) (connect_size s app)
  plays : (key : List ℕ) → Takes s (play key) (length (create_stream_body s.requests.next))
  publishes : (key : List ℕ) (t : PublishRequestType) → Takes s (publish key t) (length (create_stream_body s.requests.next))
  -- deleteStream, at the stop's own two stages and with an active stream
  stops_playback :
      (x : StreamNumber) → (stage s ≡ PlayRequested) ⊎ (stage s ≡ Playing) → s.progress.active ≡ Some x →
      Takes s stop_playback (length (delete_stream_body x.0))
  stops_publishing :
      (x : StreamNumber) → (stage s ≡ PublishRequested) ⊎ (stage s ≡ Publishing) → s.progress.active ≡ Some x →
      Takes s stop_publishing (length (delete_stream_body x.0))
  sends_picture : (b : List ℕ) (t : RtmpTimestamp) (d : Bool) → Takes s (picture b t d) (length b)
  sends_sound : (b : List ℕ) (t : RtmpTimestamp) (d : Bool) → Takes s (sound b t d) (length b)
  sends_metadata : (m : StreamMetadata) (text : List ℕ) → Takes s (metadata m text) (length (metadata_body text m))
  pings : Takes s ping 6
  acknowledges : (n w : ℕ) → s.link.window ≡ Some w → w ≤ s.link.pending + n → Takes s (bytes n) 4
  answers : (k : ℕ) (t : RtmpTimestamp) (x : StreamNumber) (b : List ℕ) (n : ℕ) → Answers s k b n → Takes s (message k t x b) n

-- the lent output is shorter than that
abbrev pub Short : ClientSession → Call → List ℕ → Type 0
Short s c old = (n : ℕ) × Takes s c n × (length old < n)
