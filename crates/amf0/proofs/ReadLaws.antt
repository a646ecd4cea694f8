-- What the readers of values, of objects and of arrays have to answer at a place of s.
-- Assumes nothing.
use Prim.Native.Nat.{ℕ, zero, suc, ◌+◌, ◌-◌, ◌≤◌, ◌<◌}
use native.Mathlib.Omega.{arith}
use mathlib.Core.Path.{◌≡◌, refl, sym, ap, ◌∙◌}
use mathlib.Core.Bool.{true, false}
use mathlib.Core.List.{List, [], ◌∷◌}
use lib.Dec.{eqb}
use lib.ListN.{length, drop, length-drop}
use borrow.Author.Tests.{eq-eqb, ne_eqb}
use Rattle.std.specs.Prelude.{Result, Ok, Err}
use Rattle.octets.specs.Parse.{Parse, bad, got, and_then}
use Rattle.octets.specs.BigEndian.{uint}
use Rattle.octets.specs.Compare.{part}
use Rattle.amf0.specs.Value.{Value, Values, cons}
use Rattle.amf0.specs.Decode.{last, name_of, object_of, values, content, marker, value, top_value, all_values}
use Rattle.amf0.specs.Encode.{count}
use Rattle.amf0.specs.Places.{end_of, count_of, malformed}
use Rattle.amf0.specs.declared.marker.Marker.{Marker}
use Rattle.amf0.specs.declared.marker.Marker.TheVariants.{EcmaArray, StrictArray}
use Rattle.amf0.specs.declared.read.Malformed.{Malformed}
use Rattle.amf0.proofs.CutLaws.{Cuts, cuts-value}
use Rattle.amf0.proofs.Fuel.{object-is, all-is}
use Rattle.amf0.proofs.PlaceLaws.{MarkerRead, UintRead, Read, end-got, forget}
use Rattle.amf0.proofs.TextLaws.{NamePlace}

-- an object, property by property
module _ (f : List ℕ → Parse Value) (hf : (x : List ℕ) → Cuts 1 x (f x)) (s : List ℕ) (i : ℕ) where
  pub object-bad : name_of (drop i s) ≡ bad → object_of f (drop i s) ≡ bad
  object-bad e = object-is f hf (drop i s) ∙ rw e

  pub object-last : {r : List ℕ} → name_of (drop i s) ≡ got last r → object_of f (drop i s) ≡ got [] r
  object-last e = object-is f hf (drop i s) ∙ rw e

  module _ {start len : ℕ} (n : NamePlace s i start len) where
    pub object-stop : f (drop (start + len) s) ≡ bad → object_of f (drop i s) ≡ bad
    object-stop e = object-is f hf (drop i s) ∙ rw (n.is, e)

    pub object-step : {j : ℕ} (r : Read s (start + len) 1 j (f (drop (start + len) s))) → object_of f (drop i s)
        ≡ and_then (object_of f (drop j s)) (λ ps x. got (record { name = part s start len; value = r.what; from = drop (start + len) s } ∷ ps) x)
    object-step r = object-is f hf (drop i s) ∙ rw (n.is, r.is)

-- an array, value by value
module _ (f : List ℕ → Parse Value) (s : List ℕ) (i : ℕ) where
  pub values-none : (n : ℕ) → n ≤ 0 → i ≤ length s → Ok i ≡ end_of s (values f n (drop i s))
  unfolding values
  values-none n z h = let e : n ≡ 0 = omega arith in rw e (end-got s i _ h)

  pub values-stop : (n : ℕ) → 0 < n → f (drop i s) ≡ bad → values f n (drop i s) ≡ bad
  unfolding values
  values-stop zero l e = absurd (omega arith)
  values-stop (suc n) l e = rw e

  pub values-step : (n j : ℕ) → 0 < n → Read s i 1 j (f (drop i s)) → end_of s (values f n (drop i s)) ≡ end_of s (values f (n - 1) (drop j s))
  unfolding values
  values-step zero j l r = absurd (omega arith)
  values-step (suc n) j l r =
      let e : suc n - 1 ≡ n = omega arith in
      rw (r.is, e) (sym (forget s (values f n (drop j s)) _))

-- a value, by its marker
module _ (s : List ℕ) (at d : ℕ) where
  pub value_none : d ≡ 0 → value d (drop at s) ≡ bad
  unfolding value
  value_none e = rw e

pub value_bad : (s : List ℕ) (at d : ℕ) → marker (drop at s) ≡ bad → value d (drop at s) ≡ bad
unfolding value
value_bad s at zero e = refl
value_bad s at (suc d) e = rw e

pub value-is : (s : List ℕ) (at d : ℕ) → (d ≡ 0 → ⊥) → {k : Marker} → MarkerRead s at k → value d (drop at s) ≡ content (value (d - 1)) k (drop (at + 1) s)
unfolding value
value-is s at zero z m = absurd (z refl)
value-is s at (suc d) z m =
    let e : suc d - 1 ≡ d = omega arith in
    rw (m.is, e)

-- the two arrays, by their count
module _ (f : List ℕ → Parse Value) (s : List ℕ) (at : ℕ) where
  pub ecma_short : uint 4 (drop at s) ≡ bad → content f EcmaArray (drop at s) ≡ bad
  unfolding content
  ecma_short e = rw e

  pub strict-short : uint 4 (drop at s) ≡ bad → content f StrictArray (drop at s) ≡ bad
  unfolding content
  strict-short e = rw e

  pub ecma-is : {n : ℕ} → UintRead 4 s at n → end_of s (object_of f (drop (at + 4) s)) ≡ end_of s (content f EcmaArray (drop at s))
  unfolding content
  ecma-is u = rw u.is (forget s (object_of f (drop (at + 4) s)) _)

  pub strict-is : {n : ℕ} → UintRead 4 s at n → end_of s (values f n (drop (at + 4) s)) ≡ end_of s (content f StrictArray (drop at s))
  unfolding content
  strict-is {n} u = rw u.is (forget s (values f n (drop (at + 4) s)) _)

-- n values, and those that are counted after them
abbrev pub plus : ℕ → Result ℕ Malformed → Result ℕ Malformed
plus n (Ok m) = Ok (n + m)
plus n (Err d) = Err d

pub none_before : (c : Result ℕ Malformed) → c ≡ plus 0 c
none_before (Ok m) = ap Ok (omega arith)
none_before (Err d) = refl

-- values to the end of s, one by one
module _ (s : List ℕ) (i n : ℕ) where
  left : i < length s → eqb (length (drop i s)) 0 ≡ false
  left l = ne_eqb (length (drop i s)) 0 (λ e. omega (arith, length-drop i s))

  pub count-end : length s ≤ i → Ok n ≡ plus n (count_of (all_values (drop i s)))
  unfolding count_of count
  count-end h =
      let e : eqb (length (drop i s)) 0 ≡ true = eq-eqb (length (drop i s)) 0 (omega (arith, length-drop i s)) in
      rw (all-is top_value (cuts-value _) (drop i s), e) (ap Ok (omega arith))

  pub count-stop : i < length s → top_value (drop i s) ≡ bad → Err malformed ≡ plus n (count_of (all_values (drop i s)))
  unfolding count_of
  count-stop l e = rw (all-is top_value (cuts-value _) (drop i s), left l, e)

  pub count-step : (j : ℕ) → i < length s → Read s i 1 j (top_value (drop i s))
      → plus n (count_of (all_values (drop i s))) ≡ plus (n + 1) (count_of (all_values (drop j s)))
  unfolding count_of count
  count-step j l r = rw (all-is top_value (cuts-value _) (drop i s), left l, r.is) (go r.what (all_values (drop j s)))
    where
      go : (v : Value) (p : Parse Values) → plus n (count_of (and_then p (λ vs x. got (cons v vs) x))) ≡ plus (n + 1) (count_of p)
      go v bad = refl
      go v (got vs x) = ap Ok (omega arith)
