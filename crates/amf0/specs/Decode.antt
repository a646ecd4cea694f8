-- Values read from bytes: the AMF0 paper's sections 1.3 and 2, within document 01's limits.
-- Assumes nothing.
use Rattle.std.specs.Prelude.{ℕ, zero, suc, cond, not, List, [], ◌∷◌, eqb, length, Result, Ok, Err}
use Rattle.octets.specs.Parse.{Parse, bad, got, and_then, field}
use Rattle.octets.specs.BigEndian.{uint}
use Rattle.octets.specs.Utf8.{utf8}
use Rattle.amf0.specs.Value.{Value, number, boolean, text, object, null, undefined, strict, Props, end, prop, Values, nil, cons}
use Rattle.amf0.specs.declared.marker.Marker.{Marker}
use Rattle.amf0.specs.declared.marker.Marker.TheVariants.{Number, Boolean, Text, Object, Null, Undefined, EcmaArray, StrictArray}
use Rattle.amf0.specs.declared.read.Malformed.{Malformed}

-- section 2.1: the markers that document 01 lists
unfoldable pub marker_of : ℕ → Result Marker Malformed
marker_of m =
    cond (eqb m 0x00) (Ok Number)
    (cond (eqb m 0x01) (Ok Boolean)
    (cond (eqb m 0x02) (Ok Text)
    (cond (eqb m 0x03) (Ok Object)
    (cond (eqb m 0x05) (Ok Null)
    (cond (eqb m 0x06) (Ok Undefined)
    (cond (eqb m 0x08) (Ok EcmaArray)
    (cond (eqb m 0x0a) (Ok StrictArray)
    (Err (record {})))))))))

-- what a code stands for, with the bytes after it
abbrev pub coded : {A : Type 0} → Result A Malformed → List ℕ → Parse A
coded (Ok k) r = got k r
coded (Err e) r = bad

-- the marker at the front
unfoldable pub marker : List ℕ → Parse Marker
marker s = and_then (uint 1 s) (λ m r. coded (marker_of m) r)

-- section 1.3.1, UTF-8: 2 bytes of length, and as many bytes, which are UTF-8
unfoldable pub text_of : List ℕ → Parse (List ℕ)
text_of s = and_then (uint 2 s) (λ n r. and_then (field n r) (λ t r2. cond (utf8 t) (got t r2) bad))

-- section 2.5: what stands before a property's value, or at the object's end. An empty name stands only before the end marker, 09
pub data Name : Type 0 where
  last : Name
  named : List ℕ → Name

abbrev pub end_mark : List ℕ → Parse Name
end_mark s = and_then (uint 1 s) (λ m r. cond (eqb m 0x09) (got last r) bad)

unfoldable pub name_of : List ℕ → Parse Name
name_of s = and_then (text_of s) (λ n r. cond (eqb (length n) 0) (end_mark r) (got (named n) r))

-- a property where it stands: its name, its value, and the bytes from the value on
pub record Property : Type 0 where
  pub name : List ℕ
  pub value : Value
  pub from : List ℕ

-- the properties without their places
abbrev pub plainly : List Property → Props
plainly [] = end
plainly (p ∷ ps) = prop p.name p.value (plainly ps)

module _ (f : List ℕ → Parse Value) where
  -- after a name, with `more` for the properties after this one
  abbrev pub property_after : (List ℕ → Parse (List Property)) → Name → List ℕ → Parse (List Property)
  property_after more last r = got [] r
  property_after more (named n) r =
      and_then (f r) (λ v r2. and_then (more r2) (λ ps r3. got (record { name = n; value = v; from = r } ∷ ps) r3))

  -- the properties up to the end, at most as many as the fuel: each takes at least 4 bytes, so the length is enough
  unfoldable pub properties : ℕ → List ℕ → Parse (List Property)
  properties zero s = bad
  properties (suc k) s = and_then (name_of s) (property_after (properties k))

  abbrev pub object_of : List ℕ → Parse (List Property)
  object_of s = properties (length s) s

  -- section 2.12: as many values as the count says
  unfoldable pub values : ℕ → List ℕ → Parse Values
  values zero s = got nil s
  values (suc n) s = and_then (f s) (λ v r. and_then (values n r) (λ vs r2. got (cons v vs) r2))

  -- what follows a marker. Section 2.10: an ECMA array's count is ignored
  unfoldable pub content : Marker → List ℕ → Parse Value
  content Number s = and_then (uint 8 s) (λ n r. got (number n) r)
  content Boolean s = and_then (uint 1 s) (λ b r. got (boolean (not (eqb b 0))) r)
  content Text s = and_then (text_of s) (λ t r. got (text t) r)
  content Object s = and_then (object_of s) (λ ps r. got (object (plainly ps)) r)
  content Null s = got null s
  content Undefined s = got undefined s
  content EcmaArray s = and_then (uint 4 s) (λ n r. and_then (object_of r) (λ ps r2. got (object (plainly ps)) r2))
  content StrictArray s = and_then (uint 4 s) (λ n r. and_then (values n r) (λ vs r2. got (strict vs) r2))

-- a value of at most d levels
unfoldable pub value : ℕ → List ℕ → Parse Value
value zero s = bad
value (suc d) s = and_then (marker s) (content (value d))

-- a value of a body: document 01's "a top value has depth 1; depth 9 is refusal 8"
abbrev pub top_value : List ℕ → Parse Value
top_value = value 8

-- values to the end of the bytes, at most as many as the fuel
module _ (f : List ℕ → Parse Value) where
  unfoldable pub to_end : ℕ → List ℕ → Parse Values
  to_end zero s = cond (eqb (length s) 0) (got nil s) bad
  to_end (suc k) s =
      cond (eqb (length s) 0) (got nil s)
      (and_then (f s) (λ v r. and_then (to_end k r) (λ vs r2. got (cons v vs) r2)))

-- all the values of a body from here on
abbrev pub all_values : List ℕ → Parse Values
all_values s = to_end top_value (length s) s
