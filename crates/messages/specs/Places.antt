-- What a body says, with the places in the body s of its texts and values.
-- Assumes nothing.
use Rattle.std.specs.Prelude.{ℕ, ◌-◌, Bool, false, cond, List, length, Option, Some, None, Result, Ok, Err}
use Rattle.octets.specs.Span.{span}
use Rattle.amf0.specs.Places as amf0
use Rattle.amf0.specs.declared.read.Malformed.{Malformed}
use Rattle.octets.specs.Parse.{place_of}
use Rattle.octets.specs.Compare.{ascii, same}
use Rattle.amf0.specs.Value.{Value, number, boolean, text, object, null, undefined, strict, Values, nil, cons}
use Rattle.messages.specs.Incoming.{Incoming, malformed, set_chunk_size, abort, acknowledgement, window_size, peer_bandwidth, user_control, command, values, audio, video, unknown, Command}
use Rattle.messages.specs.declared.rtmp_message.CommandName.{CommandName}
use Rattle.messages.specs.declared.rtmp_message.CommandName.TheVariants as name
use Rattle.messages.specs.declared.rtmp_message.Argument.{Argument}
use Rattle.messages.specs.declared.rtmp_message.Argument.TheVariants as argument
use Rattle.messages.specs.declared.rtmp_message.Command.{Command as Placed}
use Rattle.messages.specs.declared.rtmp_message.DataMessage.{DataMessage}
use Rattle.messages.specs.declared.rtmp_message.DataMessage.TheVariants as said
use Rattle.messages.specs.declared.rtmp_message.RtmpMessage.{RtmpMessage}
use Rattle.messages.specs.declared.rtmp_message.RtmpMessage.TheVariants as message

-- the name, whole and byte by byte
unfoldable pub name_of : List ℕ → CommandName
name_of t =
    cond (same t (ascii "_result")) name.Result
    (cond (same t (ascii "_error")) name.Error
    (cond (same t (ascii "onStatus")) name.OnStatus
    name.Other))

unfoldable pub argument_of : Value → Argument
argument_of (number n) = argument.Number n
argument_of (object ps) = argument.Object
argument_of (text t) = argument.Other
argument_of (boolean b) = argument.Other
argument_of null = argument.Other
argument_of undefined = argument.Other
argument_of (strict vs) = argument.Other

unfoldable pub first_of : Values → Option Argument
first_of nil = None
first_of (cons v vs) = Some (argument_of v)

abbrev pub command_at : List ℕ → Command → Placed
command_at s c =
    record {
      name = name_of c.name;
      name_at = span (place_of s c.after_name - length c.name) (length c.name);
      number = c.number;
      object = place_of s c.from_object;
      args = place_of s c.from_args;
      first = first_of c.args;
    }

-- `onMetaData` and then an object, which starts at p
abbrev pub if_object : ℕ → Option Argument → DataMessage
if_object p (Some argument.Object) = said.OnMetaData p
if_object p (Some (argument.Number n)) = said.Other
if_object p (Some argument.Other) = said.Other
if_object p None = said.Other

abbrev pub is_on_meta_data : Value → Bool
is_on_meta_data (text t) = same t (ascii "onMetaData")
is_on_meta_data (number n) = false
is_on_meta_data (object ps) = false
is_on_meta_data (boolean b) = false
is_on_meta_data null = false
is_on_meta_data undefined = false
is_on_meta_data (strict vs) = false

unfoldable pub data_at : ℕ → Values → DataMessage
data_at p nil = said.Other
data_at p (cons v vs) = cond (is_on_meta_data v) (if_object p (first_of vs)) said.Other

unfoldable pub placed : List ℕ → Incoming → Result RtmpMessage Malformed
placed s malformed = Err amf0.malformed
placed s (set_chunk_size n) = Ok (message.SetChunkSize n)
placed s (abort n) = Ok (message.Abort n)
placed s (acknowledgement n) = Ok (message.Acknowledgement n)
placed s (window_size n) = Ok (message.WindowAcknowledgement n)
placed s (peer_bandwidth n l) = Ok (message.SetPeerBandwidth n l)
placed s (user_control e) = Ok (message.UserControl e)
placed s (command c) = Ok (message.Amf0Command (command_at s c))
placed s (values d) = Ok (message.Amf0Data (data_at (place_of s d.after_first) d.values))
placed s audio = Ok message.AudioData
placed s video = Ok message.VideoData
placed s unknown = Ok message.Unknown
