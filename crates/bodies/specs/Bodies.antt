-- The bodies that a client sends: RTMP 1.0 sections 5.4, 7.1.7 and 7.2, and document 01, "The session's work".
-- Assumes nothing.
use Rattle.std.specs.Prelude.{ℕ, Bool, true, false, Option, Some, None, List, [], ◌++◌}
use Rattle.std.specs.Borrow.{Bor}
use Rattle.octets.specs.BigEndian.{digits}
use Rattle.octets.specs.Compare.{ascii}
use Rattle.numbers.specs.Numbers.{number_of}
use Rattle.amf0.specs.Value.{Value, number, text, object, null, Props, end, prop, Values, nil, cons}
use Rattle.amf0.specs.Encode.{encode_values}
use Rattle.messages.specs.Numbers.{event_number}
use Rattle.messages.specs.declared.publish_request_type.PublishRequestType.{PublishRequestType}
use Rattle.messages.specs.declared.publish_request_type.PublishRequestType.TheVariants.{Live, Record, Append}
use Rattle.messages.specs.declared.rtmp_message.UserControlEvent.{UserControlEvent}
use Rattle.messages.specs.declared.rtmp_message.UserControlEvent.TheVariants.{StreamBegin, StreamEof, StreamDry, SetBufferLength, StreamIsRecorded, PingRequest, PingResponse}

-- section 7.1.1: a command's name, its number, an object or null, and its arguments
abbrev pub command_values : List ℕ → ℕ → Value → Values → Values
command_values name n v args = cons (text name) (cons (number (number_of n)) (cons v args))

-- a text that a caller may leave out: whether it is given, and its bytes
abbrev pub is_given : Option (Bor (List ℕ)) → Bool
is_given (Some url) = true
is_given None = false

abbrev pub url_bytes : Option (Bor (List ℕ)) → List ℕ
url_bytes (Some url) = url.now
url_bytes None = []

-- a property that is sent where it is configured
abbrev pub tc_url_prop : Bool → List ℕ → Props
tc_url_prop true url = prop (ascii "tcUrl") (text url) end
tc_url_prop false url = end

-- section 7.2.1.1
abbrev pub connect_object : List ℕ → List ℕ → Bool → List ℕ → Value
connect_object app flash has url =
    object
    (prop (ascii "app") (text app)
    (prop (ascii "flashVer") (text flash)
    (prop (ascii "objectEncoding") (number (number_of 0))
    (tc_url_prop has url))))

unfoldable pub connect_body : ℕ → List ℕ → List ℕ → Bool → List ℕ → List ℕ
connect_body n app flash has url = encode_values (command_values (ascii "connect") n (connect_object app flash has url) nil)

-- section 7.2.1.3
unfoldable pub create_stream_body : ℕ → List ℕ
create_stream_body n = encode_values (command_values (ascii "createStream") n null nil)

-- section 7.2.2.3: the number is 0, and the stream is named by an argument
unfoldable pub delete_stream_body : ℕ → List ℕ
delete_stream_body stream = encode_values (command_values (ascii "deleteStream") 0 null (cons (number (number_of stream)) nil))

-- section 7.2.2.1
unfoldable pub play_body : List ℕ → List ℕ
play_body key = encode_values (command_values (ascii "play") 0 null (cons (text key) nil))

-- section 7.2.2.6
abbrev pub publish_name : PublishRequestType → List ℕ
publish_name Live = ascii "live"
publish_name Record = ascii "record"
publish_name Append = ascii "append"

unfoldable pub publish_body : List ℕ → PublishRequestType → List ℕ
publish_body key kind = encode_values (command_values (ascii "publish") 0 null (cons (text key) (cons (text (publish_name kind)) nil)))

-- section 7.1.7: the values of an event, and an event with its number before them
abbrev pub event_values : UserControlEvent → List ℕ
event_values (StreamBegin x) = digits 4 x.0
event_values (StreamEof x) = digits 4 x.0
event_values (StreamDry x) = digits 4 x.0
event_values (SetBufferLength x n) = digits 4 x.0 ++ digits 4 n
event_values (StreamIsRecorded x) = digits 4 x.0
event_values (PingRequest t) = digits 4 t.0
event_values (PingResponse t) = digits 4 t.0

unfoldable pub control_body : UserControlEvent → List ℕ
control_body e = digits 2 (event_number e) ++ event_values e

-- sections 5.4.1, 5.4.3 and 5.4.4: a chunk size, an acknowledgement, a window size
abbrev pub word_body : ℕ → List ℕ
word_body n = digits 4 n
