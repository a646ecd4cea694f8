-- The places as a list: the free place, what putting a request there and closing one change, the search by number, and what sound places hold.
-- Assumes nothing.
use Prim.Native.Nat.{ℕ, zero, suc, ◌+◌, ◌<◌, ◌≤◌}
use mathlib.Core.Path.{◌≡◌, refl, ap, sym, ◌∙◌}
use mathlib.Core.Bool.{true, false, cond, ◌||◌, true≢false, false≢true}
use mathlib.Core.List.{List, [], ◌∷◌, Memᴰ}
use Rattle.std.specs.Prelude.{Option, Some, None}
use Rattle.std.specs.Option.{is_some, is_none}
use Rattle.std.proofs.lemmas.Bool.{and_parts, or_parts}
use native.Mathlib.Omega.{arith}
use native.Mathlib.Numerals.{add-one}
use borrow.Author.Tests.{eqb-true, eqb-false, eq-eqb, ne_eqb, ltb-true, lt-ltb, leb-true, leb-false, not-true}
use lib.ListN.{length, get_or, set, length-set, length-map}
use lib.Seq.{get_or-set_same, get_or-set_other}
use lib.Dec.{eqb, leb}
use Rattle.requests.specs.Texts.{text_sound}
use Rattle.requests.specs.Places.{empty_place, Slot, open_as, open_count, first_free, free_place, free_place_is, put}
use Rattle.requests.specs.Places.{held_by, lookup, without, has_number, place_sound, places_sound, all_free}
use Rattle.requests.specs.declared.outstanding_transaction.OutstandingTransaction.{OutstandingTransaction}
use Rattle.requests.specs.declared.text.Text.{Text}
use Rattle.requests.specs.declared.place.Place.{Place}
use Rattle.requests.specs.declared.place.Request.{Request}
use Rattle.requests.proofs.BoolLaws.{by_cases}

-- a place with a request
abbrev pub opened : ℕ → OutstandingTransaction → Text → Place
opened n k t = record { request = Some (record { 0 = n }, k); text = t }

-- ---- the free place
count_most : (ps : List Place) → open_count ps ≤ length ps
unfolding open_count
count_most [] = omega arith
count_most (p ∷ ps) = let h = count_most ps in by_cases (is_none p.request) (λ u. rw u (omega arith)) (λ u. rw u (omega arith))

first_below : (ps : List Place) → open_count ps < length ps → first_free ps < length ps
unfolding open_count first_free
first_below [] h = h
first_below (p ∷ ps) h =
    by_cases (is_none p.request) (λ u. rw u (omega arith)) (λ u. let l = first_below ps (let g = rw u at h in omega arith) in rw u (omega arith))

below-first : (ps : List Place) → first_free ps < length ps → open_count ps < length ps
unfolding open_count first_free
below-first [] h = h
below-first (p ∷ ps) h =
    let m = count_most ps in
    by_cases (is_none p.request) (λ u. rw u (omega arith)) (λ u. let l = below-first ps (let g = rw u at h in omega arith) in rw u (omega arith))

first-here : (p : Place) (ps : List Place) → is_none p.request ≡ true → first_free (p ∷ ps) ≡ 0
unfolding first_free
first-here p ps u = rw u

first-later : (p : Place) (ps : List Place) → is_none p.request ≡ false → first_free (p ∷ ps) ≡ suc (first_free ps)
unfolding first_free
first-later p ps u = rw u (omega arith)

first-free : (ps : List Place) → is_none (get_or ps (first_free ps) empty_place).request ≡ true
first-free [] = refl
first-free (p ∷ ps) = by_cases (is_none p.request) (λ u. rw (first-here p ps u) u) (λ u. rw (first-later p ps u) (first-free ps))

module _ (ps : List Place) where
  -- a place is free exactly if fewer are open than there are places
  pub free-below : open_count ps < length ps → free_place ps < length ps
  free-below h = rw (free_place_is ps) (first_below ps h)

  pub below_free : free_place ps < length ps → open_count ps < length ps
  below_free h = below-first ps (rw (free_place_is ps) at h)

  pub free-full : length ps ≤ free_place ps → length ps ≤ open_count ps
  free-full h =
      by_cases (leb (length ps) (open_count ps))
      (leb-true (length ps) (open_count ps))
      (λ u. absurd (omega (arith, free-below (leb-false (length ps) (open_count ps) u))))

  -- past the end stands an empty place, so this asks for nothing
  pub free-is-free : is_none (get_or ps (free_place ps) empty_place).request ≡ true
  free-is-free = rw (free_place_is ps) (first-free ps)

-- ---- a request put there
module _ (p : Place) (ps : List Place) where
  pub length-put : length (put p ps) ≡ length ps
  unfolding put
  length-put = length-set ps (free_place ps) p

  pub put-there : open_count ps < length ps → (d : Place) → get_or (put p ps) (free_place ps) d ≡ p
  unfolding put
  put-there h d = get_or-set_same ps (free_place ps) p d (free-below ps h)

  pub put-elsewhere : (i : ℕ) → (i ≡ free_place ps → ⊥) → (d : Place) → get_or (put p ps) i d ≡ get_or ps i d
  unfolding put
  put-elsewhere i h d = get_or-set_other ps (free_place ps) i p d h

-- the count where a free place is set to an open one
count_set : (p : Place) → is_none p.request ≡ false → (ps : List Place) (i : ℕ) → i < length ps
    → is_none (get_or ps i empty_place).request ≡ true → open_count (set ps i p) ≡ suc (open_count ps)
unfolding open_count
count_set p o [] i h f = absurd (omega arith)
count_set p o (q ∷ ps) zero h f = rw (o, f)
count_set p o (q ∷ ps) (suc i) h f =
    let r = count_set p o ps i (omega arith) f in
    by_cases (is_none q.request) (λ u. rw u r) (λ u. rw u (ap suc r))

pub count-put : (p : Place) (ps : List Place) → is_none p.request ≡ false → open_count ps < length ps → open_count (put p ps) ≡ open_count ps + 1
unfolding put
count-put p ps o h = rw (add-one (open_count ps)) (count_set p o ps (free_place ps) (free-below ps h) (free-is-free ps))

-- ---- the search
-- a place that is not open under the number adds nothing
pub shut-held : (m : ℕ) (σ : Slot) (t : Text) (o : Option Request) → open_as m σ ≡ false → held_by m σ t o ≡ o
shut-held m None t o e = refl
shut-held m (Some (n, k)) t o e = rw e

free_shut : (m : ℕ) (σ : Slot) → is_none σ ≡ true → open_as m σ ≡ false
free_shut m None e = refl
free_shut m (Some (n, k)) e = absurd (false≢true e)

open-taken : (m : ℕ) (σ : Slot) → open_as m σ ≡ true → is_none σ ≡ false
open-taken m None e = absurd (false≢true e)
open-taken m (Some (n, k)) e = refl

some-held : (n : ℕ) (σ : Slot) (t : Text) (o : Option Request) → is_some (held_by n σ t o) ≡ open_as n σ || is_some o
some-held n None t o = refl
some-held n (Some (m, k)) t o = by_cases (eqb m.0 n) (λ u. rw u) (λ u. rw u)

has-lookup : (n : ℕ) (ps : List Place) → has_number n ps ≡ is_some (lookup n ps)
unfolding has_number lookup
has-lookup n [] = refl
has-lookup n (p ∷ ps) = rw (has-lookup n ps) (sym (some-held n p.request p.text (lookup n ps)))

-- a number is in the places exactly if the search finds a request
module _ (n : ℕ) (ps : List Place) where
  pub none_has : lookup n ps ≡ None → has_number n ps ≡ false
  none_has e = has-lookup n ps ∙ ap is_some e

  pub has-none : has_number n ps ≡ false → lookup n ps ≡ None
  has-none e = go (lookup n ps) (sym (has-lookup n ps) ∙ e)
    where
      go : (o : Option Request) → is_some o ≡ false → o ≡ None
      go None e = refl
      go (Some q) e = absurd (true≢false e)

  pub some_has : {q : Request} → lookup n ps ≡ Some q → has_number n ps ≡ true
  some_has e = has-lookup n ps ∙ ap is_some e

-- a free place set to one that is not open under m changes nothing for m
lookup-set : (m : ℕ) (p : Place) → open_as m p.request ≡ false → (ps : List Place) (i : ℕ)
    → is_none (get_or ps i empty_place).request ≡ true → lookup m (set ps i p) ≡ lookup m ps
unfolding lookup
lookup-set m p o [] i f = refl
lookup-set m p o (q ∷ ps) zero f =
    shut-held m p.request p.text (lookup m ps) o ∙ sym (shut-held m q.request q.text (lookup m ps) (free_shut m q.request f))
lookup-set m p o (q ∷ ps) (suc i) f = ap (held_by m q.request q.text) (lookup-set m p o ps i f)

-- any place set to the request n, where n was in none
lookup-new : (n : ℕ) (k : OutstandingTransaction) (t : Text) (ps : List Place) (i : ℕ) → i < length ps → has_number n ps ≡ false
    → lookup n (set ps i (opened n k t)) ≡ Some (record { kind = k; text = t })
unfolding has_number lookup
lookup-new n k t [] i h e = absurd (omega arith)
lookup-new n k t (q ∷ ps) zero h e = rw (eq-eqb n n refl)
lookup-new n k t (q ∷ ps) (suc i) h e =
    let p = or_parts (open_as n q.request) (has_number n ps) e in
    rw (lookup-new n k t ps i (omega arith) p.1) (shut-held n q.request q.text _ p.0)

module _ (n : ℕ) (k : OutstandingTransaction) (t : Text) (ps : List Place) where
  pub lookup-put-other : (m : ℕ) → (n ≡ m → ⊥) → lookup m (put (opened n k t) ps) ≡ lookup m ps
  unfolding put
  lookup-put-other m h = lookup-set m (opened n k t) (ne_eqb n m h) ps (free_place ps) (free-is-free ps)

  pub lookup-put-new : open_count ps < length ps → has_number n ps ≡ false → lookup n (put (opened n k t) ps) ≡ Some (record { kind = k; text = t })
  unfolding put
  lookup-put-new h e = lookup-new n k t ps (free_place ps) (free-below ps h) e

  -- the two together
  pub lookup-put : open_count ps < length ps → has_number n ps ≡ false
      → (m : ℕ) → lookup m (put (opened n k t) ps) ≡ cond (eqb n m) (Some (record { kind = k; text = t })) (lookup m ps)
  lookup-put h e m =
      by_cases (eqb n m)
      (λ u. rw (u, ← eqb-true n m u) (lookup-put-new h e))
      (λ u. rw u (lookup-put-other m (eqb-false n m u)))

-- ---- closing
pub length_without : (n : ℕ) (ps : List Place) → length (without n ps) ≡ length ps
unfolding without
length_without n ps = length-map ps _

open_other : (n m : ℕ) (σ : Slot) → open_as n σ ≡ true → (n ≡ m → ⊥) → open_as m σ ≡ false
open_other n m None e h = refl
open_other n m (Some (a, k)) e h = ne_eqb a.0 m (λ q. h (sym (eqb-true a.0 n e) ∙ q))

-- a place that is closed holds nothing for n, and the others hold the same
pub lookup-without : (m n : ℕ) (ps : List Place) → lookup m (without n ps) ≡ cond (eqb n m) None (lookup m ps)
unfolding lookup without
lookup-without m n [] = by_cases (eqb n m) (λ u. rw u) (λ u. rw u)
lookup-without m n (p ∷ ps) =
    rw (lookup-without m n ps)
    (by_cases (open_as n p.request)
    (λ u. by_cases (eqb n m)
    (λ v. rw (u, v))
    (λ v. rw (u, v) (sym (shut-held m p.request p.text (lookup m ps) (open_other n m p.request u (eqb-false n m v))))))
    (λ u. by_cases (eqb n m)
    (λ v. rw (u, v) (shut-held m p.request p.text None (rw (eqb-true n m v) at u)))
    (λ v. rw (u, v))))

without-has : (m n : ℕ) (ps : List Place) → has_number m ps ≡ false → has_number m (without n ps) ≡ false
without-has m n ps e = none_has m (without n ps) (lookup-without m n ps ∙ by_cases (eqb n m) (λ u. rw u) (λ u. rw u (has-none m ps e)))

-- closing a number that is not there changes nothing
pub without-none : (n : ℕ) (ps : List Place) → has_number n ps ≡ false → without n ps ≡ ps
unfolding has_number without
without-none n [] e = refl
without-none n (p ∷ ps) e =
    let q = or_parts (open_as n p.request) (has_number n ps) e in
    rw q.0 (ap (λ l. p ∷ l) (without-none n ps q.1))

-- ---- a request that the search finds, as a member of the places
held-open : (n : ℕ) (σ : Slot) (t : Text) (o : Option Request) (q : Request) → open_as n σ ≡ true → held_by n σ t o ≡ Some q
    → opened n q.kind q.text ≡ record { request = σ; text = t }
held-open n None t o q u e = absurd (false≢true u)
held-open n (Some (m, k)) t o q u e =
    let a : m.0 ≡ n = eqb-true m.0 n u in
    let b : record { kind = k; text = t } ≡ q = let c = rw u at e in cc in
    rw (← b, ← a)

pub found_in : (n : ℕ) (ps : List Place) {q : Request} → lookup n ps ≡ Some q → Memᴰ (opened n q.kind q.text) ps
unfolding lookup
found_in n [] {q} e = absurd (let z : ◌≡◌ {A = ℕ} 0 1 = cc in omega arith)
found_in n (p ∷ ps) {q} e =
    by_cases (open_as n p.request)
    (λ u. Memᴰ.head (held-open n p.request p.text (lookup n ps) q u e))
    (λ u. Memᴰ.tail (found_in n ps (sym (shut-held n p.request p.text (lookup n ps) u) ∙ e)))

-- ---- sound places
-- what a sound open place says, as facts
record SoundOpen (next n : ℕ) (t : Text) (others : List Place) : Type 0 where
  above : 0 < n
  below : n < next
  once : has_number n others ≡ false
  text : text_sound t ≡ true

module _ (next : ℕ) (n : ℕ) (k : OutstandingTransaction) (t : Text) (ps : List Place) where
  sound-open : place_sound next (Some (record { 0 = n }, k)) t ps ≡ true → SoundOpen next n t ps
  unfolding place_sound
  sound-open e =
      let l = and_parts _ _ e in
      let a = and_parts _ _ l.0 in
      let b = and_parts _ _ l.1 in
      record { above = ltb-true 0 n a.0; below = ltb-true n next a.1; once = not-true _ b.0; text = b.1 }

  open-sound : SoundOpen next n t ps → place_sound next (Some (record { 0 = n }, k)) t ps ≡ true
  unfolding place_sound
  open-sound s = rw (lt-ltb 0 n s.above, lt-ltb n next s.below, s.once, s.text)

free-sound : (next : ℕ) (t : Text) (ps : List Place) → place_sound next None t ps ≡ true
unfolding place_sound
free-sound next t ps = refl

module _ (next : ℕ) (p : Place) (ps : List Place) where
  sound-first : places_sound next (p ∷ ps) ≡ true → place_sound next p.request p.text ps ≡ true
  unfolding places_sound
  sound-first e = (and_parts _ _ e).0

  sound-rest : places_sound next (p ∷ ps) ≡ true → places_sound next ps ≡ true
  unfolding places_sound
  sound-rest e = (and_parts _ _ e).1

  sound-both : place_sound next p.request p.text ps ≡ true → places_sound next ps ≡ true → places_sound next (p ∷ ps) ≡ true
  unfolding places_sound
  sound-both e f = rw (e, f)

free_slot : (next : ℕ) (σ : Slot) (t : Text) (ps : List Place) → is_none σ ≡ true → place_sound next σ t ps ≡ true
free_slot next None t ps e = free-sound next t ps
free_slot next (Some (n, k)) t ps e = absurd (false≢true e)

pub free_places : (next : ℕ) (ps : List Place) → all_free ps ≡ true → places_sound next ps ≡ true
unfolding all_free places_sound
free_places next [] e = refl
free_places next (p ∷ ps) e =
    sound-both next p ps
    (free_slot next p.request p.text ps (and_parts _ _ e).0)
    (free_places next ps (and_parts _ _ e).1)

-- what holds of a place still holds where the next number rises and the others have no number that they had not
slot_kept : (next next' : ℕ) (σ : Slot) (t : Text) (ps qs : List Place) → next ≤ next'
    → ((a : ℕ) → a < next → has_number a ps ≡ false → has_number a qs ≡ false) → place_sound next σ t ps ≡ true → place_sound next' σ t qs ≡ true
slot_kept next next' None t ps qs l f e = free-sound next' t qs
slot_kept next next' (Some (n, k)) t ps qs l f e =
    let s = sound-open next n.0 k t ps e in
    open-sound next' n.0 k t qs (record { above = s.above; below = omega arith; once = f n.0 s.below s.once; text = s.text })

once : (next n : ℕ) (σ : Slot) (t : Text) (ps : List Place) → place_sound next σ t ps ≡ true → open_as n σ ≡ true → has_number n ps ≡ false
once next n None t ps e u = absurd (false≢true u)
once next n (Some (m, k)) t ps e u = rw (eqb-true m.0 n u) at (sound-open next m.0 k t ps e).once

-- a request that stands in sound places: its number is not 0 and below the next one, and its text is sound
pub record Stands (next n : ℕ) (t : Text) : Type 0 where
  pub above : 0 < n
  pub below : n < next
  pub text : text_sound t ≡ true

module _ (next : ℕ) where
  pub in-sound : (ps : List Place) → places_sound next ps ≡ true → {n : ℕ} {k : OutstandingTransaction} {t : Text}
      → Memᴰ (opened n k t) ps → Stands next n t
  in-sound [] e {n = n} {k = k} {t = t} x'' = elim x'' [ ]
  in-sound (p ∷ ps) e {n} {k} {t} (Memᴰ.head h) =
      let s = sound-open next n k t ps (rw (← h) at (sound-first next p ps e)) in
      record { above = s.above; below = s.below; text = s.text }
  in-sound (p ∷ ps) e (Memᴰ.tail m) = in-sound ps (sound-rest next p ps e) m

  pub found-sound : (n : ℕ) (ps : List Place) {q : Request} → places_sound next ps ≡ true → lookup n ps ≡ Some q → Stands next n q.text
  found-sound n ps e f = in-sound ps e (found_in n ps f)

  -- a number that is not below the next one is in no place
  pub not_yet : (n : ℕ) (ps : List Place) → places_sound next ps ≡ true → next ≤ n → has_number n ps ≡ false
  not_yet n ps e h = none_has n ps (go (lookup n ps) refl)
    where
      go : (o : Option Request) → lookup n ps ≡ o → lookup n ps ≡ None
      go None f = f
      go (Some q) f = let s = found-sound n ps e f in absurd (omega arith)

  -- in sound places the search finds what stands there
  pub in-found : (n : ℕ) (ps : List Place) (q : Request) → places_sound next ps ≡ true
      → Memᴰ (opened n q.kind q.text) ps → lookup n ps ≡ Some q
  unfolding lookup
  in-found n [] q e x'' = elim x'' [ ]
  in-found n (p ∷ ps) q e (Memᴰ.head h) = rw (← h, eq-eqb n n refl)
  in-found n (p ∷ ps) q e (Memᴰ.tail m) =
      let f = in-found n ps q (sound-rest next p ps e) m in
      by_cases (open_as n p.request)
      (λ u. absurd (true≢false (sym (some_has n ps f) ∙ once next n p.request p.text ps (sound-first next p ps e) u)))
      (λ u. shut-held n p.request p.text (lookup n ps) u ∙ f)

  -- in sound places closing a request leaves one fewer
  pub count-without : (n : ℕ) (ps : List Place) → places_sound next ps ≡ true → has_number n ps ≡ true → open_count (without n ps) + 1 ≡ open_count ps
  unfolding has_number open_count without
  count-without n [] e h = absurd (false≢true h)
  count-without n (p ∷ ps) e h =
      by_cases (open_as n p.request)
      (λ u.
      let c = ap open_count (without-none n ps (once next n p.request p.text ps (sound-first next p ps e) u)) in
      rw (u, open-taken n p.request u) (omega arith))
      (λ u.
      let c = count-without n ps (sound-rest next p ps e) (rw u at h) in
      by_cases (is_none p.request) (λ v. rw (u, v) c) (λ v. rw (u, v) (omega arith)))

-- ---- soundness is kept
sound_more : (next : ℕ) (ps : List Place) → places_sound next ps ≡ true → places_sound (next + 1) ps ≡ true
unfolding places_sound
sound_more next [] e = refl
sound_more next (p ∷ ps) e =
    sound-both (next + 1) p ps
    (slot_kept next (next + 1) p.request p.text ps ps (omega arith) (λ a l h. h) (sound-first next p ps e))
    (sound_more next ps (sound-rest next p ps e))

module _ (n : ℕ) (k : OutstandingTransaction) (t : Text) (z : 0 < n) (s : text_sound t ≡ true) where
  sound-set : (ps : List Place) (i : ℕ) → i < length ps → is_none (get_or ps i empty_place).request ≡ true → places_sound n ps ≡ true
      → places_sound (n + 1) (set ps i (opened n k t)) ≡ true
  sound-set [] i h f e = absurd (omega arith)
  sound-set (p ∷ ps) zero h f e =
      sound-both (n + 1) (opened n k t) ps
      (open-sound (n + 1) n k t ps (record { above = z; below = omega arith; once = not_yet n n ps (sound-rest n p ps e) (omega arith); text = s }))
      (sound_more n ps (sound-rest n p ps e))
  sound-set (p ∷ ps) (suc i) h f e =
      let qs = set ps i (opened n k t) in
      sound-both (n + 1) p qs
      (slot_kept n (n + 1) p.request p.text ps qs (omega arith)
      (λ a l g. none_has a qs (lookup-set a (opened n k t) (ne_eqb n a (λ q. omega arith)) ps i f ∙ has-none a ps g)) (sound-first n p ps e))
      (sound-set ps i (omega arith) f (sound-rest n p ps e))

  -- the next number taken for a request with a sound text
  pub put-sound : (ps : List Place) → open_count ps < length ps → places_sound n ps ≡ true → places_sound (n + 1) (put (opened n k t) ps) ≡ true
  unfolding put
  put-sound ps h e = sound-set ps (free_place ps) (free-below ps h) (free-is-free ps) e

pub without-sound : (next n : ℕ) (ps : List Place) → places_sound next ps ≡ true → places_sound next (without n ps) ≡ true
unfolding without
without-sound next n [] e = e
without-sound next n (p ∷ ps) e =
    let r = without-sound next n ps (sound-rest next p ps e) in
    by_cases (open_as n p.request)
    (λ u. rw u (sound-both next _ (without n ps) (free-sound next _ (without n ps)) r))
    (λ u. rw u (sound-both next p (without n ps)
    (slot_kept next next p.request p.text ps (without n ps) (omega arith)
    (λ a l g. without-has a n ps g) (sound-first next p ps e)) r))
