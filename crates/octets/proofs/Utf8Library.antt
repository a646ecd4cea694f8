-- The library's UTF-8, which spells characters by their numbers, is the ABNF's: what it spells is `Octets`, and `Octets` it spells.
-- Assumes nothing.
use Prim.Native.Nat.{ℕ, ◌+◌, ◌-◌, ◌*◌, ◌/◌, ◌%◌, ◌≤◌, ◌<◌}
use mathlib.Core.Bool.{Bool, true, false, false≢true}
use mathlib.Core.List.{List, [], ◌∷◌, ◌++◌, Memᴰ}
use mathlib.Core.Logic.{⊎_elim}
use mathlib.Core.Path.{◌≡◌, refl, sym, subst}
use native.Mathlib.Omega.{arith}
use borrow.Author.Tests.{le-leb, lt-ltb, le-ltb, leb-true, ltb-true, ltb-false}
use lib.Dec.{leb, ltb}
use lib.ListN.{get_or}
use lib.Utf8.{scalar, scalars, encode, encodes, scalar_cases, low_scalar}
use Rattle.std.specs.Prelude.{Result, Ok, Err, MatchResult, is_ok}
use Rattle.std.specs.Str.{IsUtf8}
use Rattle.octets.specs.Utf8.{Range, from_to, tail, rows, within, in_row, Octets, none, char, utf8}
use Rattle.octets.proofs.Utf8Laws.{both, means, meant}

by_order : {C : Type 0} (a b : ℕ) → (a < b → C) → (b ≤ a → C) → C
by_order {C} a b f g = go (ltb a b) refl
  where
    go : (t : Bool) → ltb a b ≡ t → C
    go true e = f (ltb-true a b e)
    go false e = g (ltb-false a b e)

-- the rows by their numbers, and their ranges
abbrev row : ℕ → List Range
row k = get_or rows k []

abbrev range : ℕ → ℕ → Range
range k i = get_or (row k) i tail

abbrev low : Range → ℕ
low (from_to lo hi) = lo

abbrev high : Range → ℕ
high (from_to lo hi) = hi

held : (r : Range) (x : ℕ) → low r ≤ x → x ≤ high r → within r x ≡ true
held (from_to lo hi) x p q = rw (le-leb lo x p, le-leb x hi q)

bounds : (r : Range) (x : ℕ) → within r x ≡ true → (low r ≤ x) × (x ≤ high r)
bounds (from_to lo hi) x e = let w = both (leb lo x) (leb x hi) e in (leb-true lo x w.0, leb-true x hi w.1)

-- ---- what the library spells
is_tail : (r : Range) (x : ℕ) → r ≡ tail → within r (128 + x % 64) ≡ true
is_tail r x e = rw e (held tail (128 + x % 64) (omega arith) (omega arith))

module _ (c : ℕ) (s : List ℕ) (o : Octets s) where
  spelt_one : c < 128 → Octets (encode c ++ s)
  unfolding encode
  spelt_one h =
      rw (lt-ltb c 128 (omega arith)) (char (row 0) (c ∷ []) s (Memᴰ.head refl) (rw (held (range 0 0) (c) (omega arith) (omega arith))) o)

  spelt_two : 128 ≤ c → c < 2048 → Octets (encode c ++ s)
  unfolding encode
  spelt_two l h =
      rw (le-ltb c 128 (omega arith), lt-ltb c 2048 (omega arith)) (char (row 1) ((192 + c / 64) ∷ (128 + c % 64) ∷ []) s (Memᴰ.tail (Memᴰ.head refl)) (rw (held (range 1 0) (192 + c / 64) (omega arith) (omega arith), is_tail (range 1 1) c refl)) o)

  spelt_three : 2048 ≤ c → c < 4096 → Octets (encode c ++ s)
  unfolding encode
  spelt_three l h =
      rw (le-ltb c 128 (omega arith), le-ltb c 2048 (omega arith), lt-ltb c 65536 (omega arith)) (char (row 2) ((224 + c / 4096) ∷ (128 + c / 64 % 64) ∷ (128 + c % 64) ∷ []) s (Memᴰ.tail (Memᴰ.tail (Memᴰ.head refl))) (rw (held (range 2 0) (224 + c / 4096) (omega arith) (omega arith), held (range 2 1) (128 + c / 64 % 64) (omega arith) (omega arith), is_tail (range 2 2) c refl)) o)

  spelt_four : 4096 ≤ c → c < 53248 → Octets (encode c ++ s)
  unfolding encode
  spelt_four l h =
      rw (le-ltb c 128 (omega arith), le-ltb c 2048 (omega arith), lt-ltb c 65536 (omega arith)) (char (row 3) ((224 + c / 4096) ∷ (128 + c / 64 % 64) ∷ (128 + c % 64) ∷ []) s (Memᴰ.tail (Memᴰ.tail (Memᴰ.tail (Memᴰ.head refl)))) (rw (held (range 3 0) (224 + c / 4096) (omega arith) (omega arith), is_tail (range 3 1) (c / 64) refl, is_tail (range 3 2) c refl)) o)

  spelt_five : 53248 ≤ c → c < 55296 → Octets (encode c ++ s)
  unfolding encode
  spelt_five l h =
      rw (le-ltb c 128 (omega arith), le-ltb c 2048 (omega arith), lt-ltb c 65536 (omega arith)) (char (row 4) ((224 + c / 4096) ∷ (128 + c / 64 % 64) ∷ (128 + c % 64) ∷ []) s (Memᴰ.tail (Memᴰ.tail (Memᴰ.tail (Memᴰ.tail (Memᴰ.head refl))))) (rw (held (range 4 0) (224 + c / 4096) (omega arith) (omega arith), held (range 4 1) (128 + c / 64 % 64) (omega arith) (omega arith), is_tail (range 4 2) c refl)) o)

  spelt_six : 57344 ≤ c → c < 65536 → Octets (encode c ++ s)
  unfolding encode
  spelt_six l h =
      rw (le-ltb c 128 (omega arith), le-ltb c 2048 (omega arith), lt-ltb c 65536 (omega arith)) (char (row 5) ((224 + c / 4096) ∷ (128 + c / 64 % 64) ∷ (128 + c % 64) ∷ []) s (Memᴰ.tail (Memᴰ.tail (Memᴰ.tail (Memᴰ.tail (Memᴰ.tail (Memᴰ.head refl)))))) (rw (held (range 5 0) (224 + c / 4096) (omega arith) (omega arith), is_tail (range 5 1) (c / 64) refl, is_tail (range 5 2) c refl)) o)

  spelt_seven : 65536 ≤ c → c < 262144 → Octets (encode c ++ s)
  unfolding encode
  spelt_seven l h =
      rw (le-ltb c 128 (omega arith), le-ltb c 2048 (omega arith), le-ltb c 65536 (omega arith)) (char (row 6) ((240 + c / 262144) ∷ (128 + c / 4096 % 64) ∷ (128 + c / 64 % 64) ∷ (128 + c % 64) ∷ []) s (Memᴰ.tail (Memᴰ.tail (Memᴰ.tail (Memᴰ.tail (Memᴰ.tail (Memᴰ.tail (Memᴰ.head refl))))))) (rw (held (range 6 0) (240 + c / 262144) (omega arith) (omega arith), held (range 6 1) (128 + c / 4096 % 64) (omega arith) (omega arith), is_tail (range 6 2) (c / 64) refl, is_tail (range 6 3) c refl)) o)

  spelt_eight : 262144 ≤ c → c < 1048576 → Octets (encode c ++ s)
  unfolding encode
  spelt_eight l h =
      rw (le-ltb c 128 (omega arith), le-ltb c 2048 (omega arith), le-ltb c 65536 (omega arith)) (char (row 7) ((240 + c / 262144) ∷ (128 + c / 4096 % 64) ∷ (128 + c / 64 % 64) ∷ (128 + c % 64) ∷ []) s (Memᴰ.tail (Memᴰ.tail (Memᴰ.tail (Memᴰ.tail (Memᴰ.tail (Memᴰ.tail (Memᴰ.tail (Memᴰ.head refl)))))))) (rw (held (range 7 0) (240 + c / 262144) (omega arith) (omega arith), is_tail (range 7 1) (c / 4096) refl, is_tail (range 7 2) (c / 64) refl, is_tail (range 7 3) c refl)) o)

  spelt_nine : 1048576 ≤ c → c < 1114112 → Octets (encode c ++ s)
  unfolding encode
  spelt_nine l h =
      rw (le-ltb c 128 (omega arith), le-ltb c 2048 (omega arith), le-ltb c 65536 (omega arith)) (char (row 8) ((240 + c / 262144) ∷ (128 + c / 4096 % 64) ∷ (128 + c / 64 % 64) ∷ (128 + c % 64) ∷ []) s (Memᴰ.tail (Memᴰ.tail (Memᴰ.tail (Memᴰ.tail (Memᴰ.tail (Memᴰ.tail (Memᴰ.tail (Memᴰ.tail (Memᴰ.head refl))))))))) (rw (held (range 8 0) (240 + c / 262144) (omega arith) (omega arith), held (range 8 1) (128 + c / 4096 % 64) (omega arith) (omega arith), is_tail (range 8 2) (c / 64) refl, is_tail (range 8 3) c refl)) o)

  spelt : scalar c ≡ true → Octets (encode c ++ s)
  spelt k =
      ⊎_elim (λ h.
      by_order c 128 spelt_one (λ a.
      by_order c 2048 (spelt_two a) (λ b.
      by_order c 4096 (spelt_three b) (λ d.
      by_order c 53248 (spelt_four d) (λ e. spelt_five e h)))))
      (λ h.
      by_order c 65536 (spelt_six h.0) (λ a.
      by_order c 262144 (spelt_seven a) (λ b.
      by_order c 1048576 (spelt_eight b) (λ d. spelt_nine d h.1))))
      (scalar_cases c k)

all_spelt : (cs : List ℕ) → scalars cs ≡ true → Octets (encodes cs)
all_spelt [] e = none
all_spelt (c ∷ cs) e = let w = both (scalar c) (scalars cs) e in spelt c (encodes cs) (all_spelt cs w.1) w.0

from_library : (s : List ℕ) → IsUtf8 s → Octets s
from_library s u = subst Octets u.1.1 (all_spelt u.0 u.1.0)

-- ---- what it spells of the ABNF
abbrev Spelt : List ℕ → Type 0
Spelt c = (k : ℕ) × ((scalar k ≡ true) × (encode k ≡ c))

data Held : List Range → List ℕ → Type 0 where
  nil : Held [] []
  cons : {r : Range} {row : List Range} {x : ℕ} {c : List ℕ} → within r x ≡ true → Held row c → Held (r ∷ row) (x ∷ c)

held_row : (row : List Range) (c : List ℕ) → in_row row c ≡ true → Held row c
held_row [] [] e = nil
held_row [] (x ∷ c) e = absurd (false≢true e)
held_row (r ∷ row) [] e = absurd (false≢true e)
held_row (r ∷ row) (x ∷ c) e = let w = both (within r x) (in_row row c) e in cons w.0 (held_row row c w.1)

high_scalar : (k : ℕ) → 57344 ≤ k → k < 1114112 → scalar k ≡ true
high_scalar k l h = rw (le-ltb k 55296 (omega arith), le-leb 57344 k l, lt-ltb k 1114112 h)

of_two : (x y : ℕ) → 0xc2 ≤ x → x ≤ 0xdf → 0x80 ≤ y → y ≤ 0xbf → Spelt (x ∷ y ∷ [])
unfolding encode
of_two x y a b c d =
    let k = (x - 192) * 64 + (y - 128) in
    let p : 192 + k / 64 ≡ x = omega arith in
    let q : 128 + k % 64 ≡ y = omega arith in
    (k, (low_scalar k (omega arith), rw (le-ltb k 128 (omega arith), lt-ltb k 2048 (omega arith), p, q)))

of_three : (x y z : ℕ) → 0xe0 ≤ x → x ≤ 0xef → 0x80 ≤ y → y ≤ 0xbf → 0x80 ≤ z → z ≤ 0xbf
    → (let k = (x - 224) * 4096 + (y - 128) * 64 + (z - 128) in 2048 ≤ k → scalar k ≡ true → Spelt (x ∷ y ∷ z ∷ []))
unfolding encode
of_three x y z a b c d e f l s =
    let k = (x - 224) * 4096 + (y - 128) * 64 + (z - 128) in
    let p : 224 + k / 4096 ≡ x = omega arith in
    let q : 128 + k / 64 % 64 ≡ y = omega arith in
    let r : 128 + k % 64 ≡ z = omega arith in
    (k, (s, rw (le-ltb k 128 (omega arith), le-ltb k 2048 l, lt-ltb k 65536 (omega arith), p, q, r)))

of_four : (x y z u : ℕ) → 0xf0 ≤ x → x ≤ 0xf4 → 0x80 ≤ y → y ≤ 0xbf → 0x80 ≤ z → z ≤ 0xbf → 0x80 ≤ u → u ≤ 0xbf
    → (let k = (x - 240) * 262144 + (y - 128) * 4096 + (z - 128) * 64 + (u - 128) in 65536 ≤ k → k < 1114112 → Spelt (x ∷ y ∷ z ∷ u ∷ []))
unfolding encode
of_four x y z u a b c d e f g h l m =
    let k = (x - 240) * 262144 + (y - 128) * 4096 + (z - 128) * 64 + (u - 128) in
    let p : 240 + k / 262144 ≡ x = omega arith in
    let q : 128 + k / 4096 % 64 ≡ y = omega arith in
    let r : 128 + k / 64 % 64 ≡ z = omega arith in
    let v : 128 + k % 64 ≡ u = omega arith in
    (k, (high_scalar k (omega arith) m, rw (le-ltb k 128 (omega arith), le-ltb k 2048 (omega arith), le-ltb k 65536 l, p, q, r, v)))

row_one : {c : List ℕ} → Held (row 0) c → Spelt c
unfolding encode
row_one (cons {x = x} w nil) =
    let w' = bounds (range 0 0) x w in
    (x, (low_scalar x (omega arith), rw (lt-ltb x 128 (omega arith))))

row_two : {c : List ℕ} → Held (row 1) c → Spelt c
row_two (cons {x = x} w (cons {x = y} v nil)) =
    let w' = bounds (range 1 0) x w in
    let v' = bounds (range 1 1) y v in
    of_two x y (omega arith) (omega arith) (omega arith) (omega arith)

row_three : {c : List ℕ} → Held (row 2) c → Spelt c
row_three (cons {x = x} w (cons {x = y} v (cons {x = z} t nil))) =
    let w' = bounds (range 2 0) x w in
    let v' = bounds (range 2 1) y v in
    let t' = bounds (range 2 2) z t in
    of_three x y z (omega arith) (omega arith) (omega arith) (omega arith) (omega arith) (omega arith) (omega arith) (low_scalar ((x - 224) * 4096 + (y - 128) * 64 + (z - 128)) (omega arith))

row_four : {c : List ℕ} → Held (row 3) c → Spelt c
row_four (cons {x = x} w (cons {x = y} v (cons {x = z} t nil))) =
    let w' = bounds (range 3 0) x w in
    let v' = bounds (range 3 1) y v in
    let t' = bounds (range 3 2) z t in
    of_three x y z (omega arith) (omega arith) (omega arith) (omega arith) (omega arith) (omega arith) (omega arith) (low_scalar ((x - 224) * 4096 + (y - 128) * 64 + (z - 128)) (omega arith))

row_five : {c : List ℕ} → Held (row 4) c → Spelt c
row_five (cons {x = x} w (cons {x = y} v (cons {x = z} t nil))) =
    let w' = bounds (range 4 0) x w in
    let v' = bounds (range 4 1) y v in
    let t' = bounds (range 4 2) z t in
    of_three x y z (omega arith) (omega arith) (omega arith) (omega arith) (omega arith) (omega arith) (omega arith) (low_scalar ((x - 224) * 4096 + (y - 128) * 64 + (z - 128)) (omega arith))

row_six : {c : List ℕ} → Held (row 5) c → Spelt c
row_six (cons {x = x} w (cons {x = y} v (cons {x = z} t nil))) =
    let w' = bounds (range 5 0) x w in
    let v' = bounds (range 5 1) y v in
    let t' = bounds (range 5 2) z t in
    of_three x y z (omega arith) (omega arith) (omega arith) (omega arith) (omega arith) (omega arith) (omega arith) (high_scalar ((x - 224) * 4096 + (y - 128) * 64 + (z - 128)) (omega arith) (omega arith))

row_seven : {c : List ℕ} → Held (row 6) c → Spelt c
row_seven (cons {x = x} w (cons {x = y} v (cons {x = z} t (cons {x = u} j nil)))) =
    let w' = bounds (range 6 0) x w in
    let v' = bounds (range 6 1) y v in
    let t' = bounds (range 6 2) z t in
    let j' = bounds (range 6 3) u j in
    of_four x y z u (omega arith) (omega arith) (omega arith) (omega arith) (omega arith) (omega arith) (omega arith) (omega arith) (omega arith) (omega arith)

row_eight : {c : List ℕ} → Held (row 7) c → Spelt c
row_eight (cons {x = x} w (cons {x = y} v (cons {x = z} t (cons {x = u} j nil)))) =
    let w' = bounds (range 7 0) x w in
    let v' = bounds (range 7 1) y v in
    let t' = bounds (range 7 2) z t in
    let j' = bounds (range 7 3) u j in
    of_four x y z u (omega arith) (omega arith) (omega arith) (omega arith) (omega arith) (omega arith) (omega arith) (omega arith) (omega arith) (omega arith)

row_nine : {c : List ℕ} → Held (row 8) c → Spelt c
row_nine (cons {x = x} w (cons {x = y} v (cons {x = z} t (cons {x = u} j nil)))) =
    let w' = bounds (range 8 0) x w in
    let v' = bounds (range 8 1) y v in
    let t' = bounds (range 8 2) z t in
    let j' = bounds (range 8 3) u j in
    of_four x y z u (omega arith) (omega arith) (omega arith) (omega arith) (omega arith) (omega arith) (omega arith) (omega arith) (omega arith) (omega arith)

of_row : (row : List Range) (c : List ℕ) → Memᴰ row rows → Held row c → Spelt c
of_row row c (Memᴰ.head e) h = row_one (subst (λ (r : List Range). Held r c) e h)
of_row row c (Memᴰ.tail (Memᴰ.head e)) h = row_two (subst (λ (r : List Range). Held r c) e h)
of_row row c (Memᴰ.tail (Memᴰ.tail (Memᴰ.head e))) h = row_three (subst (λ (r : List Range). Held r c) e h)
of_row row c (Memᴰ.tail (Memᴰ.tail (Memᴰ.tail (Memᴰ.head e)))) h = row_four (subst (λ (r : List Range). Held r c) e h)
of_row row c (Memᴰ.tail (Memᴰ.tail (Memᴰ.tail (Memᴰ.tail (Memᴰ.head e))))) h = row_five (subst (λ (r : List Range). Held r c) e h)
of_row row c (Memᴰ.tail (Memᴰ.tail (Memᴰ.tail (Memᴰ.tail (Memᴰ.tail (Memᴰ.head e)))))) h = row_six (subst (λ (r : List Range). Held r c) e h)
of_row row c (Memᴰ.tail (Memᴰ.tail (Memᴰ.tail (Memᴰ.tail (Memᴰ.tail (Memᴰ.tail (Memᴰ.head e))))))) h = row_seven (subst (λ (r : List Range). Held r c) e h)
of_row row c (Memᴰ.tail (Memᴰ.tail (Memᴰ.tail (Memᴰ.tail (Memᴰ.tail (Memᴰ.tail (Memᴰ.tail (Memᴰ.head e)))))))) h = row_eight (subst (λ (r : List Range). Held r c) e h)
of_row row c (Memᴰ.tail (Memᴰ.tail (Memᴰ.tail (Memᴰ.tail (Memᴰ.tail (Memᴰ.tail (Memᴰ.tail (Memᴰ.tail (Memᴰ.head e))))))))) h = row_nine (subst (λ (r : List Range). Held r c) e h)
of_row row c (Memᴰ.tail (Memᴰ.tail (Memᴰ.tail (Memᴰ.tail (Memᴰ.tail (Memᴰ.tail (Memᴰ.tail (Memᴰ.tail (Memᴰ.tail m))))))))) h = elim m [ ]

to_library : {s : List ℕ} → Octets s → IsUtf8 s
to_library none = ([], (refl, refl))
to_library (char row c s m e o) =
    let k = of_row row c m (held_row row c e) in
    let u = to_library o in
    (k.0 ∷ u.0, (rw (k.1.0, u.1.0), rw (k.1.1, u.1.1)))

-- what the library's test answers
pub told : {T E : Type 0} (s : List ℕ) (r : Result T E) (A : T → Type 0) (B : E → Type 0)
    → MatchResult r (λ t. A t × IsUtf8 s) (λ e. (IsUtf8 s → ⊥) × B e) → is_ok r ≡ utf8 s
told s (Ok t) A B h = sym (meant (from_library s h.1))
told s (Err e) A B h = go (utf8 s) refl
  where
    go : (t : Bool) → utf8 s ≡ t → false ≡ utf8 s
    go true p = absurd (h.0 (to_library (means s p)))
    go false p = sym p
