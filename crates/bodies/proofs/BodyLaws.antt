-- Writes of parts, one after the other, are a write of the command that they make up; and how long the bodies are.
-- Assumes nothing.
use Prim.Native.Nat.{ℕ, ◌+◌}
use native.Mathlib.Omega.{arith}
use mathlib.Core.Path.{◌≡◌}
use mathlib.Core.Bool.{Bool, true, false, cond}
use mathlib.Core.List.{List, ◌++◌, append_assoc}
use lib.ListN.{length, length-append}
use Rattle.octets.specs.declared.output.Writer.{Writer}
use Rattle.octets.specs.Output.{Put}
use Rattle.octets.proofs.BigEndianLaws.{length_digits}
use Rattle.octets.proofs.OutputLaws.{then}
use Rattle.amf0.specs.Value.{Value, number, text, null, Values, nil, cons}
use Rattle.amf0.specs.Encode.{encode, encode_props, encode_values}
use Rattle.amf0.proofs.EncodeLaws.{lengths}
use Rattle.amf0.proofs.WriteLaws.{nil-put, cons-put, joined-put}
use Rattle.messages.specs.declared.ids.StreamNumber.{StreamNumber}
use Rattle.messages.specs.declared.publish_request_type.PublishRequestType.{PublishRequestType}
use Rattle.messages.specs.declared.rtmp_message.UserControlEvent.TheVariants.{SetBufferLength}
use Rattle.bodies.specs.Bodies.{command_values, tc_url_prop, connect_body, create_stream_body, delete_stream_body, play_body, publish_name, publish_body, control_body}

-- a command's name and number, and then the rest
pub head-put : (name : List ℕ) (x : ℕ) (vs : Values) {o m n : Writer}
    → Put o (encode (text name) ++ encode (number x)) m → Put m (encode_values vs) n → Put o (encode_values (cons (text name) (cons (number x) vs))) n
unfolding encode
head-put name x vs p q = rw (append_assoc (encode (text name)) (encode (number x)) (encode_values vs)) at (then p q)

-- the last value
pub last-put : (v : Value) {o n : Writer} → Put o (encode v) n → Put o (encode_values (cons v nil)) n
last-put v p = cons-put v nil p nil-put

-- a command with null for its object, and then its arguments
pub args-put : (name : List ℕ) (x : ℕ) (args : Values) {o m n : Writer}
    → Put o (encode_values (command_values name x null nil)) m → Put m (encode_values args) n → Put o (encode_values (command_values name x null args)) n
args-put name x args p q = joined-put (command_values name x null nil) args p q

length-tc_url : (has : Bool) (url : List ℕ) → length (encode_props (tc_url_prop has url)) ≡ cond has (length url + 10) 0 + 3
length-tc_url true url = simp lengths (omega arith)
length-tc_url false url = simp lengths

pub length-connect : (n : ℕ) (app flash : List ℕ) (has : Bool) (url : List ℕ)
    → length (connect_body n app flash has url) ≡ 69 + length app + length flash + cond has (length url + 10) 0
unfolding connect_body
length-connect n app flash has url = simp (lengths, length-tc_url) (omega arith)

pub length-create_stream : (n : ℕ) → length (create_stream_body n) ≡ 25
unfolding create_stream_body
length-create_stream n = simp lengths

pub length-delete_stream : (x : ℕ) → length (delete_stream_body x) ≡ 34
unfolding delete_stream_body
length-delete_stream x = simp lengths

pub length-play : (key : List ℕ) → length (play_body key) ≡ 20 + length key
unfolding play_body
length-play key = simp lengths (omega arith)

pub length-publish : (key : List ℕ) (kind : PublishRequestType) → length (publish_body key kind) ≡ 26 + length key + length (publish_name kind)
unfolding publish_body
length-publish key kind = simp lengths (omega arith)

pub length-set_buffer_length : (x : StreamNumber) (ms : ℕ) → length (control_body (SetBufferLength x ms)) ≡ 10
unfolding control_body
length-set_buffer_length x ms = simp (length-append, length_digits)
