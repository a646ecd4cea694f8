-- What `properties_at`, `find` and `text-at` have to answer: of the properties from a place on the last of a name, or else the best that was found
-- before.
-- Assumes nothing.
use Prim.Native.Nat.{ℕ, ◌+◌, ◌≤◌}
use native.Mathlib.Omega.{arith}
use mathlib.Core.Path.{◌≡◌, refl, sym, ap, ◌∙◌}
use mathlib.Core.Bool.{true, false, cond}
use mathlib.Core.List.{List, [], ◌∷◌}
use lib.ListN.{length, drop}
use Rattle.std.specs.Prelude.{Option, Some, None, Result, Ok, Err}
use Rattle.octets.specs.Parse.{Parse, bad, got, and_then, place_of}
use Rattle.octets.specs.BigEndian.{uint}
use Rattle.octets.specs.Compare.{same, part}
use Rattle.amf0.specs.Decode.{Property, name_of, object_of, marker as marker_at, value}
use Rattle.amf0.specs.Lookup.{or_else, last_of, properties_of, properties_at}
use Rattle.amf0.specs.Names.{named_of, with_value, property_of}
use Rattle.amf0.specs.Places.{malformed, end_of, kind_at, start_of, start_after, start_from, start_at, found_at, found_of, text_told, text_found, text_of_property}
use Rattle.amf0.specs.declared.marker.Marker.{Marker}
use Rattle.amf0.specs.declared.marker.Marker.TheVariants.{Number, Boolean, Text, Object, Null, Undefined, EcmaArray, StrictArray}
use Rattle.amf0.specs.declared.names.Named.{Named}
use Rattle.amf0.specs.declared.names.Named.TheVariants.{End, At}
use Rattle.amf0.specs.declared.properties.Property.{Property as Placed}
use Rattle.octets.specs.declared.span.Span.{Span}
use Rattle.amf0.specs.declared.read.Malformed.{Malformed}
use Rattle.amf0.proofs.CutLaws.{clash, Past, past-past, past-place, cuts-uint, cuts-marker, cuts-value}
use Rattle.amf0.proofs.PlaceLaws.{MarkerRead, UintRead, Read, place_at, marker-over, at_read, bad-read}
use Rattle.amf0.proofs.TextLaws.{NamePlace, name-place, name-last, no_name}
use Rattle.amf0.proofs.ReadLaws.{object-bad, object-last, object-stop, object-step}
use Rattle.amf0.proofs.LookupLaws.{Stands, found-stands}

-- what an answer of `property_at` says of the object
pub record PropertyRead (s : List ℕ) (i start len j : ℕ) : Type 0 where
  pub named : NamePlace s i start len
  pub valued : Read s (start + len) 1 j (value 7 (drop (start + len) s))

module _ (s : List ℕ) (i : ℕ) where
  abbrev pub Says : Result (Option Placed) Malformed → Type 0
  Says (Ok None) = (r : List ℕ) × (object_of (value 7) (drop i s) ≡ got [] r)
  Says (Ok (Some p)) = PropertyRead s i p.name.start p.name.len p.next
  Says (Err d) = object_of (value 7) (drop i s) ≡ bad

  pub property-says : (o : Result (Option Placed) Malformed) → o ≡ property_of s (named_of s (name_of (drop i s))) → Says o
  unfolding property_of
  property-says o e = rw e (go (named_of s (name_of (drop i s))) refl)
    where
      valued : (p : Span) → NamePlace s i p.start p.len → (o : Result ℕ Malformed) → o ≡ end_of s (value 7 (drop (p.start + p.len) s))
          → Says (with_value p o)
      valued p n (Ok k) v = record { named = n; valued = at_read s (p.start + p.len) 1 k _ n.within (cuts-value 7 _) v }
      valued p n (Err d) v = object-stop (value 7) (cuts-value 7) s i n (bad-read s _ v)

      go : (o : Result Named Malformed) → o ≡ named_of s (name_of (drop i s)) → Says (property_of s o)
      go (Ok (End x)) q = (drop x s, object-last (value 7) (cuts-value 7) s i (name-last s i x q).0)
      go (Ok (At p)) q = valued p (name-place s i p q) (end_of s (value 7 (drop (p.start + p.len) s))) refl
      go (Err d) q = object-bad (value 7) (cuts-value 7) s i (no_name s _ q)

-- what stands in the rest, or else what was found before
abbrev pub or_best : Option ℕ → Result (Option ℕ) Malformed → Result (Option ℕ) Malformed
or_best b (Ok (Some e)) = Ok (Some e)
or_best b (Ok None) = Ok b
or_best b (Err d) = Err d

pub none_before : (r : Result (Option ℕ) Malformed) → r ≡ or_best None r
none_before (Ok (Some e)) = refl
none_before (Ok None) = refl
none_before (Err d) = refl

module _ (s name : List ℕ) (b : Option ℕ) where
  pub best-bad : (p : Parse (List Property)) → p ≡ bad → Err malformed ≡ or_best b (found_of s name p)
  unfolding found_of
  best-bad p e = rw e

  pub best-last : (p : Parse (List Property)) {r : List ℕ} → p ≡ got [] r → Ok b ≡ or_best b (found_of s name p)
  unfolding found_of found_at last_of
  best-last p e = rw e

  best_hit : (e : ℕ) (p : Property) → place_of s p.from ≡ e → same p.name name ≡ true → (m : Parse (List Property))
      → or_best b (found_of s name (and_then m (λ ps x. got (p ∷ ps) x))) ≡ or_best (Some e) (found_of s name m)
  unfolding found_of found_at last_of
  best_hit e p i h bad = refl
  best_hit e p i h (got ps r) = go (last_of name ps)
    where
      go : (o : Option Property) → or_best b (Ok (found_at s (or_else o (cond (same p.name name) (Some p) None)))) ≡ or_best (Some e) (Ok (found_at s o))
      go (Some q) = refl
      go None = rw h (ap (λ (k : ℕ). Ok (Some k)) i)

  best_miss : (p : Property) → same p.name name ≡ false → (m : Parse (List Property))
      → or_best b (found_of s name (and_then m (λ ps x. got (p ∷ ps) x))) ≡ or_best b (found_of s name m)
  unfolding found_of found_at last_of
  best_miss p h bad = refl
  best_miss p h (got ps r) = go (last_of name ps)
    where
      go : (o : Option Property) → or_best b (Ok (found_at s (or_else o (cond (same p.name name) (Some p) None)))) ≡ or_best b (Ok (found_at s o))
      go (Some q) = refl
      go None = rw h

  -- a property was read: its name is the one that is looked for, or not
  module _ (i : ℕ) {start len j : ℕ} (p : PropertyRead s i start len j) where
    pub find_hit : same (part s start len) name ≡ true
        → or_best b (found_of s name (object_of (value 7) (drop i s))) ≡ or_best (Some (start + len)) (found_of s name (object_of (value 7) (drop j s)))
    find_hit h =
        rw (object-step (value 7) (cuts-value 7) s i p.named p.valued)
        (best_hit _ _ (place_at s (start + len) p.named.within) h (object_of (value 7) (drop j s)))

    pub find_miss : same (part s start len) name ≡ false
        → or_best b (found_of s name (object_of (value 7) (drop i s))) ≡ or_best b (found_of s name (object_of (value 7) (drop j s)))
    find_miss h = rw (object-step (value 7) (cuts-value 7) s i p.named p.valued) (best_miss _ h (object_of (value 7) (drop j s)))

pub properties-over : (s : List ℕ) (at : ℕ) → length s ≤ at → properties_at (drop at s) ≡ bad
unfolding properties_at
properties-over s at h = rw (marker-over s at h)

-- where the properties of the value at a place start
module _ (s : List ℕ) (at : ℕ) where
  pub start-none : marker_at (drop at s) ≡ bad → Err malformed ≡ start_at s (drop at s)
  unfolding start_at
  start-none e = rw e

  pub start_is : {k : Marker} → MarkerRead s at k → start_after s k (drop (at + 1) s) ≡ start_at s (drop at s)
  unfolding start_at
  start_is m = rw m.is

  -- no other value has properties
  pub start_other : (k : Marker) → (k ≡ Object → ⊥) → (k ≡ EcmaArray → ⊥) → Ok None ≡ start_after s k (drop (at + 1) s)
  start_other Number o e = refl
  start_other Boolean o e = refl
  start_other Text o e = refl
  start_other Object o e = absurd (o refl)
  start_other Null o e = refl
  start_other Undefined o e = refl
  start_other EcmaArray o e = absurd (e refl)
  start_other StrictArray o e = refl

  pub ecma_short : uint 4 (drop at s) ≡ bad → Err malformed ≡ start_after s EcmaArray (drop at s)
  ecma_short e = rw e

  pub ecma-is : {n : ℕ} → at ≤ length s → UintRead 4 s at n → Ok (Some (at + 4)) ≡ start_after s EcmaArray (drop at s)
  ecma-is h u = rw u.is (ap (λ (k : ℕ). Ok (Some k)) (sym (place_at s (at + 4) (omega (arith, u.within)))))

-- what `find` answers after each answer of `properties_at`
abbrev pub found_from : List ℕ → List ℕ → Result (Option ℕ) Malformed → Result (Option ℕ) Malformed
found_from s name (Ok (Some p)) = found_of s name (object_of (value 7) (drop p s))
found_from s name (Ok None) = Ok None
found_from s name (Err d) = Err d

module _ (s name : List ℕ) (at : ℕ) where
  pub found-from : (o : Result (Option ℕ) Malformed) → o ≡ start_at s (drop at s) → found_from s name o ≡ found_of s name (properties_at (drop at s))
  unfolding start_at properties_at properties_of found_of found_at last_of
  found-from o e = rw e (go (marker_at (drop at s)) refl)
    where
      inside : {m : ℕ} {r : List ℕ} → Past m (drop at s) r → found_from s name (Ok (Some (place_of s r))) ≡ found_of s name (object_of (value 7) r)
      inside h = ap (λ (x : List ℕ). found_of s name (object_of (value 7) x)) (sym (past-place s at h))

      counted : (r : List ℕ) → Past 1 (drop at s) r → (p : Parse ℕ) → uint 4 r ≡ p
          → found_from s name (start_of s p) ≡ found_of s name (and_then p (λ n x. object_of (value 7) x))
      counted r h bad e = refl
      counted r h (got n x) e = inside (past-past h ((cuts-uint 4 r).cut e))

      after : (m : Marker) (r : List ℕ) → Past 1 (drop at s) r → found_from s name (start_after s m r) ≡ found_of s name (properties_of m r)
      after Number r h = refl
      after Boolean r h = refl
      after Text r h = refl
      after Object r h = inside h
      after Null r h = refl
      after Undefined r h = refl
      after EcmaArray r h = counted r h (uint 4 r) refl
      after StrictArray r h = refl

      go : (p : Parse Marker) → marker_at (drop at s) ≡ p → found_from s name (start_from s p) ≡ found_of s name (and_then p properties_of)
      go bad e = refl
      go (got m r) e = after m r ((cuts-marker (drop at s)).cut e)

-- a text under a property's name
module _ (s name : List ℕ) where
  pub text-found : (at e : ℕ) → Ok (Some e) ≡ found_of s name (properties_at (drop at s))
      → text_told (kind_at s (drop e s)) ≡ text_of_property s name (properties_at (drop at s))
  unfolding found_of found_at text_of_property text_found
  text-found at e h = go (properties_at (drop at s)) refl h
    where
      there : (o : Option Property) → ((p : Property) → o ≡ Some p → Stands (value 7) (drop at s) p) → Some e ≡ found_at s o
          → text_told (kind_at s (drop e s)) ≡ text_found s o
      there None t h = clash (cc)
      there (Some p) t h =
          let i : e ≡ place_of s p.from = cc in
          ap (λ (x : List ℕ). text_told (kind_at s x)) (ap (λ (k : ℕ). drop k s) i ∙ sym (past-place s at (t p refl).place))

      go : (q : Parse (List Property)) → properties_at (drop at s) ≡ q → Ok (Some e) ≡ found_of s name q
          → text_told (kind_at s (drop e s)) ≡ text_of_property s name q
      go bad i h = clash (cc)
      go (got ps r) i h = there (last_of name ps) (λ p. found-stands name p (drop at s) i) (let z : Some e ≡ found_at s (last_of name ps) = cc in z)

  -- there is no text where nothing is found
  pub text-none : (q : Parse (List Property)) (o : Result (Option ℕ) Malformed) → o ≡ found_of s name q → ((e : ℕ) → o ≡ Ok (Some e) → ⊥)
      → None ≡ text_of_property s name q
  unfolding found_of found_at text_of_property text_found
  text-none bad o h n = refl
  text-none (got ps r) o h n = go (last_of name ps) h
    where
      go : (p : Option Property) → o ≡ Ok (found_at s p) → None ≡ text_found s p
      go None h = refl
      go (Some p) h = absurd (n _ h)
