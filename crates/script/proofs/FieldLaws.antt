-- Laws of fields: the first field of a line's last part ends at its tab or at the line's end, and the fields after it are those after that end.
-- Assumes nothing.
use mathlib.Core.Path.{◌≡◌, refl, sym, ap, subst, ◌∙◌}
use mathlib.Core.Bool.{true, false, cond, not, and-true}
use mathlib.Core.List.{List, [], ◌∷◌}
use Prim.Native.Nat.{ℕ, suc, min, ◌+◌, ◌-◌, ◌<◌, ◌≤◌}
use native.Mathlib.Omega.{arith}
use borrow.Author.Tests.{le-leb, lt-leb, leb-true, leb-false, ltb-false}
use lib.Dec.{eqb, leb, ltb}
use lib.ListN.{length, get_or, take, drop, length-drop}
use lib.Seq.{drop-cons, drop-drop, drop-length}
use lib.Pointwise.{pointwise}
use Rattle.std.specs.Prelude.{Option, Some, None, MatchOption}
use Rattle.std.proofs.Common.{Bor}
use Rattle.std.specs.Option.{unwrap_or}
use Rattle.std.specs.List.{position, position_or_len}
use Rattle.std.proofs.Math.Nat.{min-eq_left}
use Rattle.std.proofs.lemmas.List.Sums.{prefix_len-le-length}
use Rattle.requests.proofs.BoolLaws.{by_cases}
use Rattle.script.specs.Fields.{until, bare, field, begun, fields_from, fields_at}

-- how many elements stand before the first b: what the search answers
prefix_is : (b : ℕ) (l : List ℕ) → position_or_len (λ x. eqb x b) l ≡ until b l
unfolding until
prefix_is b [] = refl
prefix_is b (x ∷ l) =
    by_cases (eqb x b)
    (λ t. rw t)
    (λ t. rw (t, prefix_is b l) (omega arith))

place_or : (n m : ℕ) → n ≤ m → unwrap_or (cond (ltb n m) (Some n) None) m ≡ n
place_or n m h =
    by_cases (ltb n m)
    (λ t. rw t)
    (λ t. rw t (omega (arith, ltb-false n m t)))

pub until-place : (b : ℕ) (l : List ℕ) → unwrap_or (position (λ x. eqb x b) l) (length l) ≡ until b l
until-place b l = place_or (position_or_len (λ x. eqb x b) l) (length l) (prefix_len-le-length (λ x. not (eqb x b)) l) ∙ prefix_is b l

none_left : (b : ℕ) (l : List ℕ) → length l ≡ 0 → until b l ≡ 0
unfolding until
none_left b [] h = refl
none_left b (x ∷ l) h = absurd (omega arith)

pub until_end : (b : ℕ) (s : List ℕ) (i : ℕ) → length s ≤ i → i ≡ i + until b (drop i s)
until_end b s i h =
    let n : length (drop i s) ≡ 0 = rw length-drop (omega arith) in
    rw (none_left b (drop i s) n) (omega arith)

leb_suc : (m n : ℕ) → leb (suc m) (suc n) ≡ leb m n
leb_suc m n =
    by_cases (leb m n)
    (λ t. le-leb (suc m) (suc n) (omega (arith, leb-true m n t)) ∙ sym t)
    (λ t. lt-leb (suc m) (suc n) (omega (arith, leb-false m n t)) ∙ sym t)

leb_moved : (a u l : ℕ) → a ≤ l → leb (suc u) (l - a) ≡ leb (suc (a + u)) l
leb_moved a u l h =
    by_cases (leb (suc u) (l - a))
    (λ t. t ∙ sym (le-leb (suc (a + u)) l (omega (arith, leb-true (suc u) (l - a) t))))
    (λ t. t ∙ sym (lt-leb (suc (a + u)) l (omega (arith, leb-false (suc u) (l - a) t))))

-- the first field goes to the first tab, and after it come those of what is left
first : (l : List ℕ) (at u e : ℕ) → u ≡ until 9 l → e ≡ at + u
    → fields_from at l ≡ field at (take u l) ∷ cond (leb (suc u) (length l)) (fields_from (suc e) (drop (suc u) l)) []
unfolding until fields_from
first [] at u e q p = rw q
first (x ∷ xs) at u e q p =
    by_cases (eqb x 9)
    (λ t. let z : u ≡ 0 = q ∙ rw t in
    let y : e ≡ at = omega arith in
    rw (t, z, y, le-leb 1 (suc (length xs)) (omega arith)))
    (λ t. let z : u ≡ suc (until 9 xs) = q ∙ rw t in
    rw (t, z, leb_suc (suc (until 9 xs)) (length xs)) (ap (begun at x) (first xs (suc at) (until 9 xs) e refl (omega arith))))

-- the field at a place of the line, and those after it
pub field_at : (s : List ℕ) (next u : ℕ) → next ≤ length s → u ≡ until 9 (drop next s)
    → fields_at s next ≡ field next (take u (drop next s)) ∷ fields_at s (next + (u + 1))
unfolding fields_at
field_at s next u h q =
    let g : next + (u + 1) ≡ suc (next + u) = omega arith in
    let b : leb (suc u) (length (drop next s)) ≡ leb (suc (next + u)) (length s) = rw length-drop (leb_moved next u (length s) h) in
    let d : drop (suc u) (drop next s) ≡ drop (suc (next + u)) s = (let k : next + suc u ≡ suc (next + u) = omega arith in drop-drop (suc u) next s ∙ ap (λ (n : ℕ). drop n s) k) in
    rw (le-leb next (length s) h) (first (drop next s) next u (next + u) q refl ∙ rw (b, d, g))

-- none past the line's end
pub none-at : (s : List ℕ) (next : ℕ) → length s < next → fields_at s next ≡ []
unfolding fields_at
none-at s next h = rw (lt-leb next (length s) h)

-- those after the line's end are none, from whichever place on
pub fields_min : (s : List ℕ) (end : ℕ) → fields_at s (min end (length s) + 1) ≡ fields_at s (end + 1)
fields_min s end =
    by_cases (leb end (length s))
    (λ t. ap (λ n. fields_at s (n + 1)) (min-eq_left (leb-true end (length s) t)))
    (λ t. let l : length s < end = leb-false end (length s) t in
    none-at s (min end (length s) + 1) (omega arith) ∙ sym (none-at s (end + 1) (omega arith)))

-- the carriage return at a line's end
last_one : (x : ℕ) (s : List ℕ) → pointwise eqb (drop (length s) (x ∷ s)) (13 ∷ []) ≡ eqb (get_or (x ∷ s) (length s) 0) 13
last_one x s = rw (drop-cons (x ∷ s) (length s) 0 (omega arith), drop-length s) (and-true (eqb (get_or (x ∷ s) (length s) 0) 13))

last_byte : (s : List ℕ) → pointwise eqb (drop (length s - 1) s) (13 ∷ []) ≡ eqb (get_or s (length s - 1) 0) 13
last_byte [] = refl
last_byte (x ∷ s) =
    let e : length (x ∷ s) - 1 ≡ length s = omega arith in
    subst (λ (n : ℕ). pointwise eqb (drop n (x ∷ s)) (13 ∷ []) ≡ eqb (get_or (x ∷ s) n 0) 13) (sym e) (last_one x s)

pub bare_is : (s : List ℕ) (whole : Bor (List ℕ)) (o : Option (Bor (List ℕ))) → whole.now ≡ s
    → MatchOption o (pointwise eqb (drop (length s - 1) s) (13 ∷ []) ≡ false) (λ x. (pointwise eqb (drop (length s - 1) s) (13 ∷ []) ≡ true) × (x.now ≡ take (length s - 1) s) × (length x.now + 1 ≡ length s))
    → (unwrap_or o whole).now ≡ bare s
unfolding bare
bare_is s whole None e h = e ∙ sym (rw (sym (last_byte s) ∙ h))
bare_is s whole (Some x) e (t, n, l) = n ∙ sym (rw (sym (last_byte s) ∙ t))
