-- How long written values are, how many they are, and values written one after the other.
-- Assumes nothing.
use Prim.Native.Nat.{ℕ, ◌+◌, ◌<◌}
use native.Mathlib.Nat.{suc-add}
use native.Mathlib.Omega.{arith}
use mathlib.Core.Path.{◌≡◌, refl}
use mathlib.Core.List.{List, ◌++◌, append_assoc}
use mathlib.Core.Bool.{Bool}
use lib.ListN.{length, length-append}
use Rattle.octets.proofs.BigEndianLaws.{length_digits}
use Rattle.amf0.specs.Value.{Value, number, boolean, text, object, null, undefined, strict, Props, end, prop, Values, nil, cons}
use Rattle.amf0.specs.Encode.{text_bytes, count, encode, encode_props, encode_values}

pub length-text_bytes : (t : List ℕ) → length (text_bytes t) ≡ 2 + length t
unfolding text_bytes
length-text_bytes t = rw (length-append, length_digits)

pub length-number : (n : ℕ) → length (encode (number n)) ≡ 9
unfolding encode
length-number n = rw length_digits

pub length-boolean : (b : Bool) → length (encode (boolean b)) ≡ 2
unfolding encode
length-boolean b = refl

pub length-text : (t : List ℕ) → length (encode (text t)) ≡ 3 + length t
unfolding encode
length-text t = rw length-text_bytes (omega arith)

pub length-null : length (encode null) ≡ 1
unfolding encode
length-null = refl

pub length-object : (ps : Props) → length (encode (object ps)) ≡ 1 + length (encode_props ps)
unfolding encode
length-object ps = omega arith

pub length-end : length (encode_props end) ≡ 3
unfolding encode
length-end = refl

pub length-prop : (n : List ℕ) (v : Value) (ps : Props) → length (encode_props (prop n v ps)) ≡ 2 + length n + length (encode v) + length (encode_props ps)
unfolding encode
length-prop n v ps = simp (length-append, length-text_bytes) (omega arith)

pub length-nil : length (encode_values nil) ≡ 0
unfolding encode
length-nil = refl

pub length-cons : (v : Value) (vs : Values) → length (encode_values (cons v vs)) ≡ length (encode v) + length (encode_values vs)
unfolding encode
length-cons v vs = simp length-append

-- for `simp`: the length of a body whose values are written out
pub ruleset lengths =
    (length-text_bytes, length-number, length-boolean, length-text, length-null, length-object, length-end, length-prop, length-nil, length-cons)

-- a value has its marker at least
pub some_bytes : (v : Value) → 0 < length (encode v)
unfolding encode
some_bytes (number n) = omega arith
some_bytes (boolean b) = omega arith
some_bytes (text t) = omega arith
some_bytes (object ps) = omega arith
some_bytes null = omega arith
some_bytes undefined = omega arith
some_bytes (strict vs) = omega arith

-- the values `a` and then the values `b`
abbrev pub joined : Values → Values → Values
joined nil b = b
joined (cons v a) b = cons v (joined a b)

pub encode-joined : (a b : Values) → encode_values (joined a b) ≡ encode_values a ++ encode_values b
unfolding encode
encode-joined nil b = refl
encode-joined (cons v a) b = rw (encode-joined a b, append_assoc)

pub count-joined : (a b : Values) → count (joined a b) ≡ count a + count b
unfolding count
count-joined nil b = omega arith
count-joined (cons v a) b = rw (count-joined a b, suc-add)
