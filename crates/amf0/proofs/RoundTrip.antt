-- What is written is read back: every value within the limits, whatever follows it; properties, with their places; and the values of a body.
-- Assumes nothing.
use Prim.Native.Nat.{ℕ, zero, suc, ◌+◌, ◌-◌, ◌^◌, ◌≤◌, ◌<◌}
use native.Mathlib.Omega.{arith}
use mathlib.Core.Path.{◌≡◌, refl, ap, ◌∙◌}
use mathlib.Core.Bool.{Bool, true, false, cond}
use mathlib.Core.List.{List, [], ◌∷◌, ◌++◌, append_assoc}
use lib.Dec.{ltb}
use lib.ListN.{length, take, drop, length-append}
use lib.Seq.{sets-eq, take_at, drop_at, length-take-le}
use borrow.Author.Tests.{ne_eqb}
use Rattle.std.specs.Prelude.{Ok, Err}
use Rattle.octets.specs.Parse.{Parse, got}
use Rattle.octets.specs.BigEndian.{digits, uint}
use Rattle.octets.specs.Utf8.{utf8}
use Rattle.octets.specs.Output.{Put, Written, answer, left, no_space}
use Rattle.octets.specs.declared.output.Writer.{Writer}
use Rattle.octets.specs.Compare.{part}
use Rattle.octets.proofs.Utf8Laws.{utf8_nil}
use Rattle.octets.proofs.ParseLaws.{field-append}
use Rattle.octets.proofs.BigEndianLaws.{uint-digits}
use Rattle.amf0.specs.Value.{Value, number, boolean, text, object, null, undefined, strict, Props, end, prop, Values, nil, cons}
use Rattle.amf0.specs.Decode.{marker_of, marker, text_of, last, named, name_of, Property, plainly, properties, values, content, value, top_value, to_end, all_values}
use Rattle.amf0.specs.Encode.{text_bytes, count, encode, encode_props, encode_values, Within, PropsWithin, ValuesWithin}
use Rattle.amf0.specs.Lookup.{properties_of, properties_at}
use Rattle.amf0.specs.declared.marker.Marker.TheVariants.{Boolean}
use Rattle.amf0.specs.declared.marker.Marker.{Marker}
use Rattle.amf0.proofs.EncodeLaws.{length-prop, length-cons, some_bytes}

one_byte : (m : ℕ) (s : List ℕ) → uint 1 (m ∷ s) ≡ got m s
unfolding uint
one_byte m s = rw (field-append 1 (m ∷ []) s refl) (ap (λ (n : ℕ). got n s) (omega arith))

value-step : (d m : ℕ) (s : List ℕ) {k : Marker} → 0 < d → marker_of m ≡ Ok k → value d (m ∷ s) ≡ content (value (d - 1)) k s
unfolding value marker
value-step zero m s h k = absurd (omega arith)
value-step (suc d) m s h k =
    let e : suc d - 1 ≡ d = omega arith in
    rw (one_byte, k, e)

pub text-round : (t r : List ℕ) → length t < 2 ^ 16 → utf8 t ≡ true → text_of (text_bytes t ++ r) ≡ got t r
unfolding text_of text_bytes
text-round t r l u = rw (append_assoc, uint-digits 2 (length t) (t ++ r) l, field-append (length t) t r refl, u)

boolean-round : (f : List ℕ → Parse Value) (b : Bool) (r : List ℕ) → content f Boolean (cond b 1 0 ∷ r) ≡ got (boolean b) r
unfolding content
boolean-round f true r = rw one_byte
boolean-round f false r = rw one_byte

-- a property's name
name-round : (n r : List ℕ) → 0 < length n → length n < 2 ^ 16 → utf8 n ≡ true → name_of (text_bytes n ++ r) ≡ got (named n) r
unfolding name_of
name-round n r p l u = rw (text-round n r l u, ne_eqb (length n) 0 (λ q. omega arith))

no_text : (r : List ℕ) → text_of (0 ∷ 0 ∷ r) ≡ got [] r
unfolding text_bytes digits
no_text r = text-round [] r (omega arith) utf8_nil

-- an object's end
end-round : (r : List ℕ) → name_of (0 ∷ 0 ∷ 9 ∷ r) ≡ got last r
unfolding name_of
end-round r = rw (no_text (9 ∷ r), one_byte 9 r)

-- the properties `ps` where they stand, with `r` after them
abbrev pub located : Props → List ℕ → List Property
located end r = []
located (prop n v ps) r = record { name = n; value = v; from = encode v ++ (encode_props ps ++ r) } ∷ located ps r

pub plainly-located : (ps : Props) (r : List ℕ) → plainly (located ps r) ≡ ps
plainly-located end r = refl
plainly-located (prop n v ps) r = rw (plainly-located ps r)

mutual
  unfolding encode Within content marker_of count properties values

  pub round : (v : Value) (d : ℕ) (r : List ℕ) → Within v d → value d (encode v ++ r) ≡ got v r
  round (number n) d r h = value-step d _ _ (omega arith) refl ∙ rw (uint-digits 8 n r (omega arith))
  round (boolean b) d r h = value-step d _ _ (omega arith) refl ∙ boolean-round (value (d - 1)) b r
  round (text t) d r h = value-step d _ _ (omega arith) refl ∙ rw (text-round t r (omega arith) h.2)
  round (object ps) d r h =
      value-step d _ _ (omega arith) refl
      ∙ rw (properties-round ps (d - 1) (length (encode_props ps ++ r)) r h.1 (omega (arith, length-append (encode_props ps) r)), plainly-located ps r)
  round null d r h = value-step d _ _ (omega arith) refl
  round undefined d r h = value-step d _ _ (omega arith) refl
  round (strict vs) d r h =
      value-step d _ _ (omega arith) refl
      ∙ rw (append_assoc, uint-digits 4 (count vs) (encode_values vs ++ r) (omega arith), strict-round vs (d - 1) r h.2)

  pub properties-round : (ps : Props) (d k : ℕ) (r : List ℕ) → PropsWithin ps d → length (encode_props ps) ≤ k
      → properties (value d) k (encode_props ps ++ r) ≡ got (located ps r) r
  properties-round end d zero r h l = absurd (omega arith)
  properties-round end d (suc k) r h l = rw (end-round r)
  properties-round (prop n v ps) d zero r h l = absurd (omega (arith, length-prop n v ps))
  properties-round (prop n v ps) d (suc k) r h l =
      rw (
        append_assoc (text_bytes n),
        append_assoc (encode v),
        name-round n (encode v ++ (encode_props ps ++ r)) (omega arith) (omega arith) h.2,
        round v d (encode_props ps ++ r) h.3,
        properties-round ps d k r h.4 (omega (arith, length-prop n v ps)),
      )

  strict-round : (vs : Values) (d : ℕ) (r : List ℕ) → ValuesWithin vs d → values (value d) (count vs) (encode_values vs ++ r) ≡ got vs r
  strict-round nil d r h = refl
  strict-round (cons v vs) d r h = rw (append_assoc, round v d (encode_values vs ++ r) h.0, strict-round vs d r h.1)

-- the properties of an object at the top, where they stand
pub object-round : (ps : Props) (r : List ℕ) → PropsWithin ps 7 → properties_at (encode (object ps) ++ r) ≡ got (located ps r) r
unfolding properties_at properties_of marker_of marker encode
object-round ps r h = rw (one_byte, properties-round ps 7 (length (encode_props ps ++ r)) r h (omega (arith, length-append (encode_props ps) r)))

-- the first of the values of a body, with the others left
pub next_round : (v : Value) (vs : Values) → Within v 8 → top_value (encode_values (cons v vs)) ≡ got v (encode_values vs)
unfolding encode
next_round v vs h = round v 8 (encode_values vs) h

-- all of them
to-end : (vs : Values) (k : ℕ) → ValuesWithin vs 8 → length (encode_values vs) ≤ k → to_end top_value k (encode_values vs) ≡ got vs []
unfolding to_end encode Within
to-end nil zero h l = refl
to-end nil (suc k) h l = refl
to-end (cons v vs) zero h l = absurd (omega (arith, length-cons v vs, some_bytes v))
to-end (cons v vs) (suc k) h l =
    let n : length (encode_values (cons v vs)) ≡ length (encode v) + length (encode_values vs) = length-cons v vs in
    let p : 0 < length (encode v) = some_bytes v in
    rw (ne_eqb (length (encode_values (cons v vs))) 0 (λ q. omega arith), round v 8 (encode_values vs) h.0, to-end vs k h.1 (omega arith))

pub values-round : (vs : Values) → ValuesWithin vs 8 → all_values (encode_values vs) ≡ got vs []
values-round vs h = to-end vs (length (encode_values vs)) h (omega arith)

-- what was put stands there
placed : {old new : Writer} {b : List ℕ} → Put old b new → new.at ≤ length old.out.now → part new.out.now old.at (new.at - old.at) ≡ b
placed {old} {new} {b} p l =
    let s = old.out.now in
    let at = old.at in
    let n : length (take at s) ≡ at = length-take-le at s (omega (arith, p.next_is)) in
    rw (
      p.list,
      sets-eq b s at (omega (arith, p.next_is)),
      append_assoc,
      drop_at (take at s) (b ++ drop (at + length b) s) at n,
      take_at b (drop (at + length b) s) (new.at - at) (omega (arith, p.next_is)),
    )

-- the values that were put are read back from where the writer stood to where it stands
pub put_reads : (vs : Values) {old new : Writer} → ValuesWithin vs 8 → Put old (encode_values vs) new → new.at ≤ length old.out.now
    → all_values (part new.out.now old.at (new.at - old.at)) ≡ got vs []
put_reads vs h p l = rw (placed p l) (values-round vs h)

written : {old b new : List ℕ} {k : ℕ} (t : Bool) → ltb (length old) (length b) ≡ t → Written old b new (Ok k) → take k new ≡ b
unfolding answer left
written {old} {b} {new} {k} true e w =
    let c : Ok k ≡ (Err no_space) = w.answered ∙ rw e in
    absurd (let z : ◌≡◌ {A = ℕ} 0 1 = cc in omega arith)
written {old} {b} {new} {k} false e w =
    let c : Ok k ≡ Ok (length b) = w.answered ∙ rw e in
    let n : new ≡ b ++ drop (length b) old = w.list ∙ rw e in
    rw (n, take_at b (drop (length b) old) k (cc))

-- and so is a body of values that a caller finds in its output
pub written-reads : (vs : Values) {old new : List ℕ} {k : ℕ} → ValuesWithin vs 8 → Written old (encode_values vs) new (Ok k)
    → all_values (take k new) ≡ got vs []
written-reads vs {old} h w = rw (written (ltb (length old) (length (encode_values vs))) refl w) (values-round vs h)
