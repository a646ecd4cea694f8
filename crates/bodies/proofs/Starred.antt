-- Each row of the table of bodies holds: one equation of lists, which antt computes.
-- Assumes nothing.
use mathlib.Core.Path.{◌≡◌, refl}
use mathlib.Core.List.{List, ◌∷◌, map, Memᴰ}
use lib.Count.{count_trailing_zeros}
use lib.Ieee.{span, climb, size, odd, units, round, of_int, to_bits, of_bits}
use Rattle.octets.specs.BigEndian.{digits}
use Rattle.octets.specs.Compare.{unhex}
use Rattle.amf0.specs.Encode.{text_bytes, encode}
use Rattle.bodies.specs.Bodies.{connect_body, create_stream_body, delete_stream_body, play_body, publish_body, control_body}
use Rattle.bodies.specs.MetadataBody.{whole_prop, rate_prop, flag_prop, text_prop, metadata_props, metadata_body}
use Rattle.bodies.specs.Starred.{Row, rows}

all : map (λ (r : Row). r.body) rows ≡ map (λ (r : Row). unhex r.hex) rows
unfolding connect_body create_stream_body delete_stream_body play_body publish_body control_body whole_prop rate_prop flag_prop text_prop metadata_props metadata_body digits text_bytes encode of_bits of_int to_bits round units odd size span climb count_trailing_zeros
all = refl

each : (rs : List Row) → map (λ (r : Row). r.body) rs ≡ map (λ (r : Row). unhex r.hex) rs → (r : Row) → Memᴰ r rs → r.body ≡ unhex r.hex
each mathlib.Core.List.[] e r x'' = elim x'' [ ]
each (x ∷ xs) e r (Memᴰ.head p) = rw p (cc)
each (x ∷ xs) e r (Memᴰ.tail m) = each xs (cc) r m

pub starred : (r : Row) → Memᴰ r rows → r.body ≡ unhex r.hex
starred r m = each rows all r m
