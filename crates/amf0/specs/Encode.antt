-- Values as bytes: the AMF0 paper's sections 1.3 and 2.
-- Assumes nothing.
use Rattle.std.specs.Prelude.{ℕ, suc, ◌-◌, ◌^◌, ◌<◌, ◌≡◌, true, cond, List, [], ◌∷◌, ◌++◌, length}
use Rattle.octets.specs.BigEndian.{digits}
use Rattle.octets.specs.Utf8.{utf8}
use Rattle.amf0.specs.Value.{Value, number, boolean, text, object, null, undefined, strict, Props, end, prop, Values, nil, cons}

-- a text with its length before it, as a property's name has it
unfoldable pub text_bytes : List ℕ → List ℕ
text_bytes t = digits 2 (length t) ++ t

unfoldable pub count : Values → ℕ
count nil = 0
count (cons v vs) = suc (count vs)

-- what stands around an object's properties
abbrev pub object_start : List ℕ
object_start = 0x03 ∷ []

abbrev pub object_end : List ℕ
object_end = 0x00 ∷ 0x00 ∷ 0x09 ∷ []

unfoldable mutual
  pub encode : Value → List ℕ
  encode (number n) = 0x00 ∷ digits 8 n
  encode (boolean b) = 0x01 ∷ cond b 1 0 ∷ []
  encode (text t) = 0x02 ∷ text_bytes t
  encode (object ps) = object_start ++ encode_props ps
  encode null = 0x05 ∷ []
  encode undefined = 0x06 ∷ []
  encode (strict vs) = 0x0a ∷ (digits 4 (count vs) ++ encode_values vs)

  pub encode_props : Props → List ℕ
  encode_props end = object_end
  encode_props (prop n v ps) = text_bytes n ++ (encode v ++ encode_props ps)

  pub encode_values : Values → List ℕ
  encode_values nil = []
  encode_values (cons v vs) = encode v ++ encode_values vs

-- a value within the limits: its pattern, lengths and counts fit their fields, texts are UTF-8, names aren't empty, and it has at most d levels
unfoldable mutual
  pub Within : Value → ℕ → Type 0
  Within (number n) d = (0 < d) × (n < 2 ^ 64)
  Within (boolean b) d = 0 < d
  Within (text t) d = (0 < d) × (length t < 2 ^ 16) × (utf8 t ≡ true)
  Within (object ps) d = (0 < d) × PropsWithin ps (d - 1)
  Within null d = 0 < d
  Within undefined d = 0 < d
  Within (strict vs) d = (0 < d) × (count vs < 2 ^ 32) × ValuesWithin vs (d - 1)

  pub PropsWithin : Props → ℕ → Type 0
  PropsWithin end d = Unit {0}
  PropsWithin (prop n v ps) d = (0 < length n) × (length n < 2 ^ 16) × (utf8 n ≡ true) × Within v d × PropsWithin ps d

  pub ValuesWithin : Values → ℕ → Type 0
  ValuesWithin nil d = Unit {0}
  ValuesWithin (cons v vs) d = Within v d × ValuesWithin vs d
