-- Of equal names the later holds: the last property of a name, with the place where its value stands, and without.
-- Assumes nothing.
use Rattle.std.specs.Prelude.{ℕ, cond, List, [], ◌∷◌, Option, Some, None}
use Rattle.octets.specs.Parse.{Parse, got, and_then}
use Rattle.octets.specs.BigEndian.{uint}
use Rattle.octets.specs.Compare.{same}
use Rattle.amf0.specs.Value.{Value, number, boolean, text, object, null, undefined, strict, Props, end, prop}
use Rattle.amf0.specs.Decode.{Property, object_of, marker, value}
use Rattle.amf0.specs.declared.marker.Marker.{Marker}
use Rattle.amf0.specs.declared.marker.Marker.TheVariants.{Number, Boolean, Text, Object, Null, Undefined, EcmaArray, StrictArray}

-- the first that is there
abbrev pub or_else : {A : Type 0} → Option A → Option A → Option A
or_else (Some a) o = Some a
or_else None o = o

-- the last property of that name
unfoldable pub last_of : List ℕ → List Property → Option Property
last_of name [] = None
last_of name (p ∷ ps) = or_else (last_of name ps) (cond (same p.name name) (Some p) None)

-- its value
unfoldable pub lookup : List ℕ → Props → Option Value
lookup name end = None
lookup name (prop n v ps) = or_else (lookup name ps) (cond (same n name) (Some v) None)

-- the value of the last property of that name of a value; of a value that is no object, none
unfoldable pub property : List ℕ → Value → Option Value
property name (object ps) = lookup name ps
property name (number n) = None
property name (boolean b) = None
property name (text t) = None
property name null = None
property name undefined = None
property name (strict vs) = None

-- the properties of the object that follows a marker; of a value that is no object, none
unfoldable pub properties_of : Marker → List ℕ → Parse (List Property)
properties_of Number s = got [] s
properties_of Boolean s = got [] s
properties_of Text s = got [] s
properties_of Object s = object_of (value 7) s
properties_of Null s = got [] s
properties_of Undefined s = got [] s
properties_of EcmaArray s = and_then (uint 4 s) (λ n r. object_of (value 7) r)
properties_of StrictArray s = got [] s

-- the properties of the value at the front
unfoldable pub properties_at : List ℕ → Parse (List Property)
properties_at s = and_then (marker s) properties_of
