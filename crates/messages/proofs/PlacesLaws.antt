-- One pass over the properties of an object: the names of the fields are told apart, and what is kept of each field is the last property of its
-- name so far.
-- Assumes nothing.
use Prim.Native.Nat.{ℕ, zero, suc, ◌+◌, ◌<◌}
use native.Mathlib.Omega.{arith}
use mathlib.Core.Path.{◌≡◌, refl, sym, ap, ◌∙◌}
use mathlib.Core.Bool.{Bool, true, false}
use mathlib.Core.List.{List, [], ◌∷◌, map}
use lib.Dec.{eqb}
use lib.ListN.{length, drop, get_or, set, replicate, length-set, get_or-replicate}
use lib.Seq.{get_or-set_same, get_or-set_other, ext_get_or}
use borrow.Author.Tests.{eqb-true, eqb-false}
use Rattle.std.specs.Prelude.{Option, Some, None, Result, Ok, Err}
use Rattle.std.specs.Result.{result_unwrap_or}
use Rattle.std.proofs.lemmas.List.Quantifiers.{position-Some}
use Rattle.octets.specs.Parse.{Parse, bad, got}
use Rattle.octets.specs.Compare.{same, part}
use Rattle.octets.proofs.CompareLaws.{same-eq, ne_same}
use Rattle.amf0.specs.Decode.{Property, object_of, value}
use Rattle.amf0.specs.Lookup.{last_of, properties_at}
use Rattle.amf0.specs.Places.{malformed, start_at, found_at, found_of}
use Rattle.amf0.specs.declared.read.Malformed.{Malformed}
use Rattle.amf0.proofs.CutLaws.{clash}
use Rattle.amf0.proofs.FindLaws.{PropertyRead, or_best, best-bad, best-last, find_hit, find_miss, found-from}
use Rattle.messages.specs.Metadata.{field_names, field_index, field_places, kind_there, field_kind}
use Rattle.messages.proofs.FieldLaws.{found_there}

abbrev pub name_at : ℕ → List ℕ
name_at k = get_or field_names k []

-- ---- the index of a name
index_same : (n : List ℕ) (k : ℕ) → Some k ≡ field_index n → (k < 11) × (same n (name_at k) ≡ true)
index_same n k e = let h = position-Some (same n) field_names k [] (sym e) in (h.0, h.1)

-- no two of the names are the same, so each is found at its own index
abbrev numbers : ℕ → ℕ → List (Option ℕ)
numbers i zero = []
numbers i (suc n) = Some i ∷ numbers (suc i) n

number_at : (i n k : ℕ) → k < n → get_or (numbers i n) k None ≡ Some (i + k)
number_at i zero k h = absurd (omega arith)
number_at i (suc n) zero h = ap Some (omega arith)
number_at i (suc n) (suc k) h = number_at (suc i) n k (omega arith) ∙ ap Some (omega arith)

own_indices : map field_index field_names ≡ numbers 0 11
unfolding same
own_indices = refl

map_at : (f : List ℕ → Option ℕ) (l : List (List ℕ)) (k : ℕ) → k < length l → get_or (map f l) k None ≡ f (get_or l k [])
map_at f [] k h = absurd (omega arith)
map_at f (x ∷ xs) zero h = refl
map_at f (x ∷ xs) (suc k) h = map_at f xs k (omega arith)

own_index : (k : ℕ) → k < 11 → field_index (name_at k) ≡ Some k
own_index k h =
    sym (map_at field_index field_names k h) ∙ ap (λ (l : List (Option ℕ)). get_or l k None) own_indices ∙ number_at 0 11 k h ∙ ap Some (omega arith)

pub own_name : (n : List ℕ) (k : ℕ) → k < 11 → same n (name_at k) ≡ true → Some k ≡ field_index n
own_name n k h e = sym (ap field_index (same-eq n (name_at k) e) ∙ own_index k h)

other_name : (n : List ℕ) (k : ℕ) → k < 11 → (field_index n ≡ Some k → ⊥) → same n (name_at k) ≡ false
other_name n k h ne = ne_same n (name_at k) (λ e. ne (ap field_index e ∙ own_index k h))

pub index_below : (n : List ℕ) (k : ℕ) → Some k ≡ field_index n → k < 11
index_below n k e = (index_same n k e).0

-- ---- what the pass keeps: the places of what was found so far, before the properties at i
pub record Keeps (s : List ℕ) (q : Parse (List Property)) (i : ℕ) (places : List (Option ℕ)) : Type 0 where
  pub long : length places ≡ 11
  pub each : (k : ℕ) → k < 11 → found_of s (name_at k) q ≡ or_best (get_or places k None) (found_of s (name_at k) (object_of (value 7) (drop i s)))

module _ (s : List ℕ) where
  -- all fields by their index, of properties that were read whole
  by_index : (q : Parse (List Property)) (l : List (Option ℕ)) → length l ≡ 11
      → ((k : ℕ) → k < 11 → found_of s (name_at k) q ≡ Ok (get_or l k None)) → Ok l ≡ field_places s q
  unfolding field_places found_of
  by_index bad l e h = clash (let z = h 0 (omega arith) in cc)
  by_index (got ps r) l e h =
      ap Ok (ext_get_or None l (map (λ n. found_at s (last_of n ps)) field_names) e
      (λ k i. let j : k < 11 = omega arith in
      let f : found_at s (last_of (name_at k) ps) ≡ get_or l k None = (let z = h k j in cc) in
      sym (map_at (λ n. found_at s (last_of n ps)) field_names k j ∙ f)))

  -- and of properties that are malformed
  none_by_index : (q : Parse (List Property)) → found_of s (name_at 0) q ≡ Err malformed → Err malformed ≡ field_places s q
  unfolding field_places found_of
  none_by_index bad h = refl
  none_by_index (got ps r) h = clash (cc)

  module _ {q : Parse (List Property)} {i : ℕ} {places : List (Option ℕ)} (K : Keeps s q i places) where
    pub keeps_hit : {start len j : ℕ} → PropertyRead s i start len j → (k : ℕ) → Some k ≡ field_index (part s start len)
        → Keeps s q j (set places k (Some (start + len)))
    keeps_hit {start} {len} {j} p k e = record { long = length-set places k _ ∙ K.long; each = λ m l. go m l (eqb m k) refl }
      where
        go : (m : ℕ) → m < 11 → (b : Bool) → eqb m k ≡ b
            → found_of s (name_at m) q
            ≡ or_best (get_or (set places k (Some (start + len))) m None) (found_of s (name_at m) (object_of (value 7) (drop j s)))
        go m l true t =
            let a : m ≡ k = eqb-true m k t in
            let h = index_same (part s start len) k e in
            rw (a, get_or-set_same places k (Some (start + len)) None (omega (arith, h.0, K.long)))
            (K.each k h.0 ∙ find_hit s (name_at k) (get_or places k None) i p h.1)
        go m l false t =
            let a = eqb-false m k t in
            rw (get_or-set_other places k m (Some (start + len)) None a)
            (K.each m l
            ∙ find_miss s (name_at m) (get_or places m None) i p
            (other_name (part s start len) m l (λ x. let z : Some k ≡ Some m = e ∙ x in let y : k ≡ m = cc in a (sym y))))

    pub keeps_miss : {start len j : ℕ} → PropertyRead s i start len j → None ≡ field_index (part s start len) → Keeps s q j places
    keeps_miss {start} {len} p e =
        record {
          long = K.long;
          each = λ m l. K.each m l
              ∙ find_miss s (name_at m) (get_or places m None) i p
              (other_name (part s start len) m l (λ x. let z : None ≡ Some m = e ∙ x in clash (cc)));
        }

    pub kept : {r : List ℕ} → object_of (value 7) (drop i s) ≡ got [] r → Ok places ≡ field_places s q
    kept e = by_index q places K.long (λ k h. K.each k h ∙ sym (best-last s (name_at k) (get_or places k None) _ e))

    pub none_kept : object_of (value 7) (drop i s) ≡ bad → Err malformed ≡ field_places s q
    none_kept e = none_by_index q (K.each 0 (omega arith) ∙ sym (best-bad s (name_at 0) (get_or places 0 None) _ e))

-- ---- the places of the object at a place, and the kinds of what stands there
mapped : (f g : List ℕ → Option ℕ) → ((n : List ℕ) → f n ≡ g n) → (l : List (List ℕ)) → map f l ≡ map g l
mapped f g h [] = refl
mapped f g h (x ∷ xs) = rw (h x, mapped f g h xs)

same_places : (s : List ℕ) (p q : Parse (List Property)) → ((n : List ℕ) → found_of s n p ≡ found_of s n q) → field_places s p ≡ field_places s q
unfolding field_places found_of
same_places s bad bad h = refl
same_places s bad (got ps r) h = clash (let z = h [] in cc)
same_places s (got ps r) bad h = clash (let z = h [] in cc)
same_places s (got ps r) (got qs x) h =
    ap Ok (mapped (λ n. found_at s (last_of n ps)) (λ n. found_at s (last_of n qs))
    (λ n. let f : found_at s (last_of n ps) ≡ found_at s (last_of n qs) = (let z = h n in cc) in f) field_names)

-- what `places_at` answers after each answer of `properties_at`
abbrev pub places_after : List ℕ → Result (Option ℕ) Malformed → Result (List (Option ℕ)) Malformed
places_after s (Ok (Some p)) = field_places s (object_of (value 7) (drop p s))
places_after s (Ok None) = Ok (replicate 11 None)
places_after s (Err d) = Err d

pub places-from : (s : List ℕ) (at : ℕ) (o : Result (Option ℕ) Malformed) → o ≡ start_at s (drop at s)
    → places_after s o ≡ field_places s (properties_at (drop at s))
unfolding field_places found_of found_at last_of
places-from s at (Ok (Some p)) e = same_places s _ _ (λ n. found-from s n at (Ok (Some p)) e)
places-from s at (Ok None) e = same_places s (got [] []) _ (λ n. found-from s n at (Ok None) e)
places-from s at (Err d) e = same_places s bad _ (λ n. found-from s n at (Err d) e)

pub kind-of-field : (s : List ℕ) (at : ℕ) (o : Result (List (Option ℕ)) Malformed) → o ≡ field_places s (properties_at (drop at s)) → (k : ℕ) → k < 11
    → kind_there s (get_or (result_unwrap_or o (replicate 11 None)) k None) ≡ field_kind s (name_at k) (properties_at (drop at s))
unfolding field_places field_kind
kind-of-field s at o e k h = rw e (go (properties_at (drop at s)) refl)
  where
    go : (q : Parse (List Property)) → properties_at (drop at s) ≡ q
        → kind_there s (get_or (result_unwrap_or (field_places s q) (replicate 11 None)) k None) ≡ field_kind s (name_at k) q
    go bad i = rw (get_or-replicate {A = Option ℕ} 11 k None None h)
    go (got ps r) i = rw (map_at (λ n. found_at s (last_of n ps)) field_names k h) (found_there (name_at k) s at i)
