-- What a message body says, by its type: RTMP 1.0 sections 5.4, 6.2 and 7.1, and document 01, "Bodies".
-- Assumes nothing.
use Rattle.std.specs.Prelude.{ℕ, cond, List, [], ◌∷◌, eqb}
use Rattle.octets.specs.Parse.{Parse, bad, got, and_then}
use Rattle.octets.specs.BigEndian.{uint}
use Rattle.amf0.specs.Value.{Value, number, boolean, text, object, null, undefined, strict, Values}
use Rattle.amf0.specs.Decode.{coded, top_value, all_values}
use Rattle.messages.specs.declared.ids.RtmpTimestamp.{RtmpTimestamp}
use Rattle.messages.specs.declared.ids.StreamNumber.{StreamNumber}
use Rattle.messages.specs.declared.rtmp_message.PeerBandwidthLimitType.{PeerBandwidthLimitType}
use Rattle.messages.specs.declared.rtmp_message.UserControlEvent.{UserControlEvent}
use Rattle.messages.specs.declared.rtmp_message.UserControlEvent.TheVariants.{StreamBegin, StreamEof, StreamDry, SetBufferLength, StreamIsRecorded, PingRequest, PingResponse}
use Rattle.messages.specs.Numbers.{type_number, event_number, limit_type}
use Rattle.messages.specs.Numbers as type

-- a command: its name, its Number's pattern, its object and its arguments; and the bytes after its name, from its object and from its arguments on
pub record Command : Type 0 where
  pub name : List ℕ
  pub number : ℕ
  pub object : Value
  pub args : Values
  pub after_name : List ℕ
  pub from_object : List ℕ
  pub from_args : List ℕ

-- the values of a data message, and the bytes after the first
pub record Data : Type 0 where
  pub values : Values
  pub after_first : List ℕ

pub data Incoming : Type 0 where
  malformed : Incoming
  set_chunk_size abort acknowledgement window_size : ℕ → Incoming
  peer_bandwidth : ℕ → PeerBandwidthLimitType → Incoming
  user_control : UserControlEvent → Incoming
  command : Command → Incoming
  values : Data → Incoming
  audio video unknown : Incoming

-- lengths are exact: nothing stands after what was read
abbrev pub whole : {A : Type 0} → (A → Incoming) → Parse A → Incoming
whole say bad = malformed
whole say (got a []) = say a
whole say (got a (x ∷ r)) = malformed

-- section 5.4.5: the limit type after the window size
abbrev pub limit_of : ℕ → List ℕ → Parse PeerBandwidthLimitType
limit_of l r = coded (limit_type l) r

pub record Bandwidth : Type 0 where
  pub size : ℕ
  pub limit : PeerBandwidthLimitType

unfoldable pub bandwidth_of : List ℕ → Parse Bandwidth
bandwidth_of s =
    and_then (uint 4 s) (λ n r. and_then (uint 1 r) (λ l r2. and_then (limit_of l r2) (λ t r3. got (record { size = n; limit = t }) r3)))

-- section 7.1.7: what follows an event's number
abbrev pub of_stream : (StreamNumber → UserControlEvent) → List ℕ → Parse UserControlEvent
of_stream e s = and_then (uint 4 s) (λ n r. got (e (record { 0 = n })) r)

abbrev pub of_time : (RtmpTimestamp → UserControlEvent) → List ℕ → Parse UserControlEvent
of_time e s = and_then (uint 4 s) (λ n r. got (e (record { 0 = n })) r)

abbrev pub buffer_length : List ℕ → Parse UserControlEvent
buffer_length s = and_then (uint 4 s) (λ n r. and_then (uint 4 r) (λ l r2. got (SetBufferLength (record { 0 = n }) l) r2))

-- an event's number is the same whatever its values are, so these stand for any
abbrev pub any_stream : StreamNumber
any_stream = record { 0 = 0 }

abbrev pub any_time : RtmpTimestamp
any_time = record { 0 = 0 }

unfoldable pub event_of : ℕ → List ℕ → Parse UserControlEvent
event_of e s =
    cond (eqb e (event_number (StreamBegin any_stream))) (of_stream StreamBegin s)
    (cond (eqb e (event_number (StreamEof any_stream))) (of_stream StreamEof s)
    (cond (eqb e (event_number (StreamDry any_stream))) (of_stream StreamDry s)
    (cond (eqb e (event_number (SetBufferLength any_stream 0))) (buffer_length s)
    (cond (eqb e (event_number (StreamIsRecorded any_stream))) (of_stream StreamIsRecorded s)
    (cond (eqb e (event_number (PingRequest any_time))) (of_time PingRequest s)
    (cond (eqb e (event_number (PingResponse any_time))) (of_time PingResponse s)
    bad))))))

unfoldable pub user_control_of : List ℕ → Incoming
user_control_of s = whole user_control (and_then (uint 2 s) event_of)

-- a value that has to be a text, a Number
unfoldable pub text_only : Value → List ℕ → Parse (List ℕ)
text_only (text t) r = got t r
text_only (number n) r = bad
text_only (boolean b) r = bad
text_only (object ps) r = bad
text_only null r = bad
text_only undefined r = bad
text_only (strict vs) r = bad

unfoldable pub number_only : Value → List ℕ → Parse ℕ
number_only (number n) r = got n r
number_only (text t) r = bad
number_only (boolean b) r = bad
number_only (object ps) r = bad
number_only null r = bad
number_only undefined r = bad
number_only (strict vs) r = bad

-- section 7.1.1: a text, a Number, a value, further values
unfoldable pub command_of : List ℕ → Parse Command
command_of s =
    and_then (and_then (top_value s) text_only) (λ name s1.
    and_then (and_then (top_value s1) number_only) (λ n s2.
    and_then (top_value s2) (λ v s3.
    and_then (all_values s3) (λ vs r.
    got (record { name = name; number = n; object = v; args = vs; after_name = s1; from_object = s2; from_args = s3 }) r))))

-- one leading 0 byte is skipped in type 17
unfoldable pub after_zero : List ℕ → List ℕ
after_zero [] = []
after_zero (x ∷ s) = cond (eqb x 0) s (x ∷ s)

-- section 7.1.2: values
abbrev pub rest_of : Parse Value → List ℕ
rest_of bad = []
rest_of (got v r) = r

unfoldable pub data_of : List ℕ → Parse Data
data_of s = and_then (all_values s) (λ vs r. got (record { values = vs; after_first = rest_of (top_value s) }) r)

-- by the message type: sections 5.4.1 to 5.4.5 and 7.1.1 to 7.1.7
unfoldable pub decode : ℕ → List ℕ → Incoming
decode t s =
    cond (eqb t (type_number type.set_chunk_size)) (whole set_chunk_size (uint 4 s))
    (cond (eqb t (type_number type.abort)) (whole abort (uint 4 s))
    (cond (eqb t (type_number type.acknowledgement)) (whole acknowledgement (uint 4 s))
    (cond (eqb t (type_number type.user_control)) (user_control_of s)
    (cond (eqb t (type_number type.window_size)) (whole window_size (uint 4 s))
    (cond (eqb t (type_number type.peer_bandwidth)) (whole (λ b. peer_bandwidth b.size b.limit) (bandwidth_of s))
    (cond (eqb t (type_number type.audio)) audio
    (cond (eqb t (type_number type.video)) video
    (cond (eqb t (type_number type.amf3_data)) (whole values (data_of s))
    (cond (eqb t (type_number type.amf3_command)) (whole command (command_of (after_zero s)))
    (cond (eqb t (type_number type.amf0_data)) (whole values (data_of s))
    (cond (eqb t (type_number type.amf0_command)) (whole command (command_of s))
    unknown)))))))))))
