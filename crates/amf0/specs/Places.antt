-- What the readers answer: places in the slice s that a reading began in, worked out from what it left over.
-- Assumes nothing.
use Rattle.std.specs.Prelude.{ℕ, ◌-◌, not, List, [], eqb, length, Option, Some, None, Result, Ok, Err}
use Rattle.octets.specs.Parse.{Parse, bad, got, place_of}
use Rattle.octets.specs.BigEndian.{uint, read_as}
use Rattle.octets.specs.Compare.{part}
use Rattle.amf0.specs.Value.{Value, number, boolean, text, object, null, undefined, strict, Values}
use Rattle.amf0.specs.Decode.{Property, marker as marker_at, text_of}
use Rattle.amf0.specs.Encode.{count}
use Rattle.amf0.specs.Lookup.{last_of}
use Rattle.amf0.specs.declared.marker.Marker.{Marker}
use Rattle.amf0.specs.declared.marker.Marker.TheVariants as marker
use Rattle.amf0.specs.declared.read.Malformed.{Malformed}
use Rattle.amf0.specs.declared.kinds.Kind.{Kind}
use Rattle.amf0.specs.declared.kinds.Kind.TheVariants as kind
use Rattle.octets.specs.declared.span.Span.{Span}
use Rattle.octets.specs.Span.{span}

abbrev pub malformed : Malformed
malformed = record {}

-- what was read
unfoldable pub outcome : {A : Type 0} → Parse A → Result A Malformed
outcome bad = Err malformed
outcome (got a r) = Ok a

-- where a reading ended
unfoldable pub end_of : {A : Type 0} → List ℕ → Parse A → Result ℕ Malformed
end_of s bad = Err malformed
end_of s (got a r) = Ok (place_of s r)

-- how many values were read
unfoldable pub count_of : Parse Values → Result ℕ Malformed
count_of bad = Err malformed
count_of (got vs r) = Ok (count vs)

-- a text that was just read: it lies right before what is left
unfoldable pub text_place : List ℕ → Parse (List ℕ) → Result Span Malformed
text_place s bad = Err malformed
text_place s (got t r) = Ok (span (place_of s r - length t) (length t))

abbrev pub text_kind : Result Span Malformed → Result Kind Malformed
text_kind (Ok p) = Ok (kind.Text p)
text_kind (Err e) = Err e

-- what a marker and the bytes at once after it tell of a value. Of an object and an array that is the kind alone
unfoldable pub kind_after : List ℕ → Marker → List ℕ → Result Kind Malformed
kind_after s marker.Number x = read_as (Err malformed) (λ n. Ok (kind.Number n)) (uint 8 x)
kind_after s marker.Boolean x = read_as (Err malformed) (λ b. Ok (kind.Boolean (not (eqb b 0)))) (uint 1 x)
kind_after s marker.Text x = text_kind (text_place s (text_of x))
kind_after s marker.Object x = Ok kind.Object
kind_after s marker.Null x = Ok kind.Null
kind_after s marker.Undefined x = Ok kind.Undefined
kind_after s marker.EcmaArray x = Ok kind.Object
kind_after s marker.StrictArray x = Ok kind.Array

abbrev pub kind_from : List ℕ → Parse Marker → Result Kind Malformed
kind_from s bad = Err malformed
kind_from s (got m x) = kind_after s m x

-- the kind of the value that x, a last part of s, begins with
unfoldable pub kind_at : List ℕ → List ℕ → Result Kind Malformed
kind_at s x = kind_from s (marker_at x)

-- the kind of a value that was read whole, with what it holds: `proofs/KindLaws.antt` shows that `kind_at` is this
unfoldable pub kind_of : List ℕ → Value → List ℕ → Kind
kind_of s (number n) r = kind.Number n
kind_of s (boolean b) r = kind.Boolean b
kind_of s (text t) r = kind.Text (span (place_of s r - length t) (length t))
kind_of s (object ps) r = kind.Object
kind_of s null r = kind.Null
kind_of s undefined r = kind.Undefined
kind_of s (strict vs) r = kind.Array

-- after a count
abbrev pub start_of : List ℕ → Parse ℕ → Result (Option ℕ) Malformed
start_of s bad = Err malformed
start_of s (got n r) = Ok (Some (place_of s r))

-- where the properties of an object start: right after its marker, or after an ECMA array's count; no other value has any
abbrev pub start_after : List ℕ → Marker → List ℕ → Result (Option ℕ) Malformed
start_after s marker.Number x = Ok None
start_after s marker.Boolean x = Ok None
start_after s marker.Text x = Ok None
start_after s marker.Object x = Ok (Some (place_of s x))
start_after s marker.Null x = Ok None
start_after s marker.Undefined x = Ok None
start_after s marker.EcmaArray x = start_of s (uint 4 x)
start_after s marker.StrictArray x = Ok None

abbrev pub start_from : List ℕ → Parse Marker → Result (Option ℕ) Malformed
start_from s bad = Err malformed
start_from s (got m x) = start_after s m x

-- of the value that x, a last part of s, begins with
unfoldable pub start_at : List ℕ → List ℕ → Result (Option ℕ) Malformed
start_at s x = start_from s (marker_at x)

-- where the value of a property starts
unfoldable pub found_at : List ℕ → Option Property → Option ℕ
found_at s None = None
found_at s (Some p) = Some (place_of s p.from)

-- of the properties that were read, the last of that name
unfoldable pub found_of : List ℕ → List ℕ → Parse (List Property) → Result (Option ℕ) Malformed
found_of s name bad = Err malformed
found_of s name (got ps r) = Ok (found_at s (last_of name ps))

-- the place of a text, where that is what stands there
abbrev pub only_text : Kind → Option Span
only_text (kind.Text p) = Some p
only_text (kind.Number n) = None
only_text (kind.Boolean b) = None
only_text kind.Object = None
only_text kind.Null = None
only_text kind.Undefined = None
only_text kind.Array = None

-- a Number's pattern, where that is what stands there
abbrev pub only_number : Kind → Option ℕ
only_number (kind.Number n) = Some n
only_number (kind.Boolean b) = None
only_number (kind.Text p) = None
only_number kind.Object = None
only_number kind.Null = None
only_number kind.Undefined = None
only_number kind.Array = None

abbrev pub text_told : Result Kind Malformed → Option Span
text_told (Ok k) = only_text k
text_told (Err e) = None

-- the place of the text that the last property of that name holds
unfoldable pub text_found : List ℕ → Option Property → Option Span
text_found s None = None
text_found s (Some p) = text_told (kind_at s p.from)

unfoldable pub text_of_property : List ℕ → List ℕ → Parse (List Property) → Option Span
text_of_property s name bad = None
text_of_property s name (got ps r) = text_found s (last_of name ps)

-- the bytes at such a place
unfoldable pub stretch : List ℕ → Option Span → List ℕ
stretch s None = []
stretch s (Some p) = part s p.start p.len
