-- Each row of the table of bodies holds: one equation of lists, which antt computes.
-- Assumes nothing.
use mathlib.Core.Path.{◌≡◌, refl}
use mathlib.Core.List.{List, ◌∷◌, map, Memᴰ}
use lib.Ieee.{of_bits, to_unsigned}
use Rattle.std.specs.Prelude.{ℕ, Option, Result}
use Rattle.amf0.specs.declared.read.Malformed.{Malformed}
use Rattle.messages.specs.Numbers.{limit_type}
use Rattle.octets.specs.Parse.{field}
use Rattle.octets.specs.BigEndian.{uint}
use Rattle.octets.specs.Compare.{same, unhex}
use Rattle.octets.specs.Utf8.{utf8, any_row, octets}
use Rattle.amf0.specs.Decode.{marker_of, marker, text_of, name_of, properties, values, content, value, to_end}
use Rattle.amf0.specs.Lookup.{last_of, properties_of, properties_at}
use Rattle.amf0.specs.Places.{text_place, kind_after, kind_at, text_found, text_of_property}
use Rattle.messages.specs.Incoming.{bandwidth_of, event_of, user_control_of, text_only, number_only, command_of, after_zero, data_of, decode}
use Rattle.messages.specs.Places as places
use Rattle.messages.specs.Places.{argument_of, first_of, data_at, placed}
use Rattle.messages.specs.Notice.{code_is, code_of, code_at}
use Rattle.messages.specs.Metadata.{field_kind, metadata_in, metadata_at}
use Rattle.messages.specs.declared.rtmp_message.RtmpMessage.{RtmpMessage}
use Rattle.messages.specs.declared.on_status.OnStatus.{OnStatus}
use Rattle.messages.specs.Starred.{Row, body, code_in, width_in, Says, rows}

data Answer : Type 0 where
  message : Result RtmpMessage Malformed → Answer
  status : Option OnStatus → Answer
  width : Option ℕ → Answer

abbrev answer : Row → Answer
answer (body t h m) = message (placed (unhex h) (decode t (unhex h)))
answer (code_in h k) = status (code_at (unhex h) (unhex h))
answer (width_in h w) = width (metadata_at (unhex h) (unhex h)).video_width

abbrev told : Row → Answer
told (body t h m) = message m
told (code_in h k) = status k
told (width_in h w) = width w

says : (r : Row) → answer r ≡ told r → Says r
says (body t h m) e = cc
says (code_in h k) e = cc
says (width_in h w) e = cc

each : (rs : List Row) → map answer rs ≡ map told rs → (r : Row) → Memᴰ r rs → Says r
each mathlib.Core.List.[] e r x'' = elim x'' [ ]
each (x ∷ xs) e r (Memᴰ.head p) = rw p (says x (cc))
each (x ∷ xs) e r (Memᴰ.tail m) = each xs (cc) r m

columns : map answer rows ≡ map told rows
unfolding placed decode user_control_of limit_type bandwidth_of event_of text_only number_only command_of after_zero data_of places.name_of argument_of first_of data_at code_is code_of field_kind metadata_in value content marker_of marker text_of name_of properties values to_end last_of properties_of properties_at text_place kind_after kind_at text_found text_of_property uint field same utf8 any_row octets of_bits to_unsigned
columns = refl

pub starred : (r : Row) → Memᴰ r rows → Says r
starred r m = each rows columns r m
