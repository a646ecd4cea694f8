-- Each row of the table of bodies holds: one equation of lists, which antt computes.
-- Assumes nothing.
use mathlib.Core.Path.{◌≡◌, refl}
use mathlib.Core.Bool.{Bool}
use mathlib.Core.List.{List, [], ◌∷◌, map, Memᴰ}
use Rattle.octets.specs.Parse.{Parse, got, field}
use Rattle.octets.specs.BigEndian.{uint}
use Rattle.octets.specs.Utf8.{utf8, any_row, octets}
use Rattle.amf0.specs.Value.{Value}
use Rattle.amf0.specs.Decode.{marker_of, marker, text_of, name_of, properties, values, content, value, top_value}
use Rattle.amf0.specs.Starred.{Row, is, passes, alone, Says, rows}

data Answer : Type 0 where
  read : Parse Value → Answer
  test : Bool → Answer

abbrev answer : Row → Answer
answer (is s v) = read (top_value s)
answer (passes s b) = test (alone (top_value s))

abbrev told : Row → Answer
told (is s v) = read (got v [])
told (passes s b) = test b

says : (r : Row) → answer r ≡ told r → Says r
says (is s v) e = cc
says (passes s b) e = cc

each : (rs : List Row) → map answer rs ≡ map told rs → (r : Row) → Memᴰ r rs → Says r
each [] e r x'' = elim x'' [ ]
each (x ∷ xs) e r (Memᴰ.head p) = rw p (says x (cc))
each (x ∷ xs) e r (Memᴰ.tail m) = each xs (cc) r m

pub starred : (r : Row) → Memᴰ r rows → Says r
unfolding value content marker_of marker text_of name_of properties values uint field utf8 any_row octets
starred r m = each rows refl r m
