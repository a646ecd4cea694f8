-- The numbers that stand in a message for each case: RTMP 1.0 sections 5.4, 6.2 and 7.1, and document 01, "Bodies".
-- Assumes nothing.
use Rattle.std.specs.Prelude.{ℕ, cond, eqb, Result, Ok, Err}
use Rattle.amf0.specs.Places.{malformed}
use Rattle.amf0.specs.declared.read.Malformed.{Malformed}
use Rattle.messages.specs.declared.rtmp_message.PeerBandwidthLimitType.{PeerBandwidthLimitType}
use Rattle.messages.specs.declared.rtmp_message.PeerBandwidthLimitType.TheVariants.{Hard, Soft, Dynamic}
use Rattle.messages.specs.declared.rtmp_message.UserControlEvent.{UserControlEvent}
use Rattle.messages.specs.declared.rtmp_message.UserControlEvent.TheVariants.{StreamBegin, StreamEof, StreamDry, SetBufferLength, StreamIsRecorded, PingRequest, PingResponse}

-- the message types that have a meaning here; every other is unknown
pub data MessageType : Type 0 where
  set_chunk_size abort acknowledgement user_control window_size peer_bandwidth : MessageType
  audio video amf3_data amf3_command amf0_data amf0_command : MessageType

-- sections 5.4.1 to 5.4.5, user control messages in 6.2 and 7.1.7; audio in 7.1.4 and video in 7.1.5; data in 7.1.2; commands in 7.1.1
abbrev pub type_number : MessageType → ℕ
type_number set_chunk_size = 1
type_number abort = 2
type_number acknowledgement = 3
type_number user_control = 4
type_number window_size = 5
type_number peer_bandwidth = 6
type_number audio = 8
type_number video = 9
type_number amf3_data = 15
type_number amf3_command = 17
type_number amf0_data = 18
type_number amf0_command = 20

-- section 7.1.7
abbrev pub event_number : UserControlEvent → ℕ
event_number (StreamBegin x) = 0
event_number (StreamEof x) = 1
event_number (StreamDry x) = 2
event_number (SetBufferLength x n) = 3
event_number (StreamIsRecorded x) = 4
event_number (PingRequest t) = 6
event_number (PingResponse t) = 7

-- section 5.4.5
abbrev pub limit_number : PeerBandwidthLimitType → ℕ
limit_number Hard = 0
limit_number Soft = 1
limit_number Dynamic = 2

unfoldable pub limit_type : ℕ → Result PeerBandwidthLimitType Malformed
limit_type n =
    cond (eqb n (limit_number Hard)) (Ok Hard)
    (cond (eqb n (limit_number Soft)) (Ok Soft)
    (cond (eqb n (limit_number Dynamic)) (Ok Dynamic)
    (Err malformed)))
