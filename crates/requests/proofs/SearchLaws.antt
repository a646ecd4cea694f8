-- The searches through the places, from what `find_map` and `position` answer.
-- Assumes nothing.
use Prim.Native.Nat.{ℕ, zero, suc, ◌+◌, ◌-◌, ◌<◌, ◌≤◌}
use mathlib.Core.Path.{◌≡◌, refl, sym, ap, ◌∙◌}
use mathlib.Core.Bool.{Bool, cond, ◌&&◌}
use mathlib.Core.List.{List, [], ◌∷◌, ◌++◌}
use native.Mathlib.Omega.{arith}
use borrow.Author.Tests.{ltb-true, ltb-false}
use lib.Dec.{eqb, ltb}
use lib.ListN.{length, get_or, set, take, drop, length-drop}
use lib.Seq.{drop-cons, take_all}
use native.Mathlib.Numerals.{add-one}
use Rattle.std.specs.Prelude.{Option, Some, None, MatchOption}
use Rattle.std.proofs.lemmas.List.{get_or_default}
use Rattle.std.proofs.lemmas.List.Edits.{map_over_more}
use Rattle.requests.specs.Places.{Slot, empty_place, open_as, held_by, lookup, without, place_sound, places_sound}
use Rattle.requests.specs.declared.text.Text.{Text}
use Rattle.requests.specs.declared.place.Place.{Place}
use Rattle.requests.specs.declared.place.Request.{Request}
use Rattle.requests.proofs.BoolLaws.{by_cases}

-- what the logic reads past the end of the places
abbrev pub no-place : Place
no-place = record { request = None; text = record { len = 0; bytes = [] } }

-- the request, if the place is open under the number
abbrev pub held : ℕ → Place → Option Request
held n p = held_by n p.request p.text None

-- a place where the search goes on, and one where it stops
goes-on : (n : ℕ) (σ : Slot) (t : Text) (o : Option Request) → held_by n σ t None ≡ None → held_by n σ t o ≡ o
goes-on n None t o e = refl
goes-on n (Some (m, k)) t o e = by_cases (eqb m.0 n) (λ u. let h = rw u at e in cc) (λ u. rw u)

stops : (n : ℕ) (σ : Slot) (t : Text) (o : Option Request) (q : Request) → held_by n σ t None ≡ Some q → held_by n σ t o ≡ Some q
stops n None t o q e = cc
stops n (Some (m, k)) t o q e = by_cases (eqb m.0 n) (λ u. rw u (rw u at e)) (λ u. let h = rw u at e in cc)

-- what the search answers is what is open under the number
pub found-first : (n : ℕ) (ps : List Place) (r : Option Request)
    → MatchOption r ((k : ℕ) → k < length ps → held n (get_or ps k no-place) ≡ None)
    (λ q. (i : ℕ) × (i < length ps) × (held n (get_or ps i no-place) ≡ Some q) × ((k : ℕ) → k < i → held n (get_or ps k no-place) ≡ None))
    → r ≡ lookup n ps
unfolding lookup
found-first n [] None m = refl
found-first n (p ∷ ps) None m =
    found-first n ps None (λ k h. m (suc k) (omega arith)) ∙ sym (goes-on n p.request p.text (lookup n ps) (m 0 (omega arith)))
found-first n [] (Some q) (i, h, e, f) = absurd (omega arith)
found-first n (p ∷ ps) (Some q) (zero, h, e, f) = sym (stops n p.request p.text (lookup n ps) q e)
found-first n (p ∷ ps) (Some q) (suc i, h, e, f) =
    found-first n ps (Some q) (i, omega arith, e, λ k l. f (suc k) (omega arith)) ∙ sym (goes-on n p.request p.text (lookup n ps) (f 0 (omega arith)))

-- the first place, or none where it would stand past the end
pub first-of : (n m : ℕ) (r : Option ℕ) → r ≡ cond (ltb n m) (Some n) None → MatchOption r (m ≤ n) (λ at. (at ≡ n) × (at < m))
first-of n m r e =
    by_cases (ltb n m)
    (λ u. let l = ltb-true n m u in rw (e, u) (refl, l))
    (λ u. let l = ltb-false n m u in rw (e, u) l)

-- a turn of the loop over the places: those from i on are sound exactly if the one there is, and those after it are
pub sound-turn : (next : ℕ) (ps : List Place) (i : ℕ) {j : ℕ} {b : Bool} → i < length ps
    → b ≡ place_sound next (get_or ps i no-place).request (get_or ps i no-place).text (take (length ps - j) (drop j ps))
    → j ≡ i + 1 → places_sound next (drop i ps) ≡ (b && places_sound next (drop (i + 1) ps))
unfolding places_sound
sound-turn next ps i h e n =
    rw (e, n, take_all (length ps - (i + 1)) (drop (i + 1) ps) (simp length-drop (omega arith)), add-one, drop-cons ps i no-place h)

-- a turn of the loop that closes: the place at i is emptied if it is open under the number
pub close-turn : (n : ℕ) (xs ys : List Place) (i : ℕ) {zs : List Place} {b : Bool} → i < length xs → length ys ≡ length xs
    → ys ≡ without n (take i xs) ++ drop i xs → b ≡ open_as n (get_or ys i no-place).request
    → zs ≡ set ys i (cond b empty_place (get_or ys i no-place)) → zs ≡ without n (take (i + 1) xs) ++ drop (i + 1) xs
unfolding without
close-turn n xs ys i h l e o z =
    let x = get_or ys i no-place in
    z ∙ ap (λ c. set ys i (cond c empty_place x)) o
    ∙ map_over_more (λ p. cond (open_as n p.request) empty_place p) xs ys i x h e (get_or_default ys i no-place x (omega arith))
