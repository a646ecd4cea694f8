-- What can be read from a message that was sent: the number of a request, and the stream that a deleteStream names.
-- Assumes nothing.
use Rattle.std.specs.Prelude.{ℕ, Bool, cond, ◌||◌, List, Option, Some, None}
use Rattle.octets.specs.Compare.{ascii, same}
use Rattle.numbers.specs.Numbers.{held}
use Rattle.amf0.specs.Value.{number, boolean, text, object, null, undefined, strict, Values, nil, cons}
use Rattle.messages.specs.Incoming.{Incoming, malformed, set_chunk_size, abort, acknowledgement, window_size, peer_bandwidth, user_control, command, values, audio, video, unknown, Command, decode}

unfoldable pub command_in : Incoming → Option Command
command_in (command c) = Some c
command_in malformed = None
command_in (set_chunk_size n) = None
command_in (abort n) = None
command_in (acknowledgement n) = None
command_in (window_size n) = None
command_in (peer_bandwidth n l) = None
command_in (user_control e) = None
command_in (values d) = None
command_in audio = None
command_in video = None
command_in unknown = None

-- Request (document 01): a connect or createStream command sent under a number
abbrev pub is_request : List ℕ → Bool
is_request name = same name (ascii "connect") || same name (ascii "createStream")

unfoldable pub requested : Option Command → Option ℕ
requested None = None
requested (Some c) = cond (is_request c.name) (Some (held c.number)) None

-- the Number that comes first, held
unfoldable pub first_number : Values → Option ℕ
first_number nil = None
first_number (cons (number b) vs) = Some (held b)
first_number (cons (boolean b) vs) = None
first_number (cons (text t) vs) = None
first_number (cons (object ps) vs) = None
first_number (cons null vs) = None
first_number (cons undefined vs) = None
first_number (cons (strict ws) vs) = None

unfoldable pub deletes : Option Command → Option ℕ
deletes None = None
deletes (Some c) = cond (same c.name (ascii "deleteStream")) (first_number c.args) None

-- of a message of type t with that body
abbrev pub request_number : ℕ → List ℕ → Option ℕ
request_number t body = requested (command_in (decode t body))

abbrev pub deleted_stream : ℕ → List ℕ → Option ℕ
deleted_stream t body = deletes (command_in (decode t body))
