-- A number rounded to a single: of the digits q as many as a single has are kept, k says how many places of the smallest single they are moved up, and the
-- pattern is k in the exponent's field with the rounded digits added, whose carry moves the field up.
-- Assumes nothing.
use mathlib.Core.Path.{◌≡◌, refl, sym, ap, ◌∙◌}
use mathlib.Core.Logic.{◌⊎◌, inl, inr}
use mathlib.Core.Bool.{Bool, cond}
use Prim.Native.Nat.{ℕ, suc, ◌+◌, ◌-◌, ◌*◌, ◌/◌, ◌%◌, ◌^◌, ◌≤◌, ◌<◌, compare, Ordering}
use native.Mathlib.Nat.{mod-eq_of_lt, div-eq_of_lt, le-div_iff_mul-le, lt_of_lt_of_le, lt_of_not-le, not-le_of_lt, le_trans, eq-or-lt_of_le}
use native.Mathlib.Nat.{mul-le-mul, mul-le-mul_right, mul_assoc, mul-pos, mul_right_comm, mul-div_cancel, add_assoc}
use native.Mathlib.Omega.{arith}
use borrow.Author.Tests.{le-ltb, le-leb, lt-leb, eq-eqb, ne_eqb}
use lib.Dec.{is_le, compare_is_eq, leb, eqb, lit≤}
use lib.Pow.{pow_pos, pow_mono, pow-lt, pow-add, shl_lt, shr_lt, shl-shr}
use lib.Ieee.{Float, nan, inf, fin, binary32, size, nearest, units, round, to_bits}
use lib.Ieee.Digits.{size-lt, size-le}
use lib.Ieee.Exact.{HasValue, units_val}
use lib.Ieee.Fits.{core, round_is, down_pos, nearest-le}
use lib.Ieee.Nearest.{closest, closest_same, nearest-ge, div_same}

-- ---- q / u to the nearest whole number
closest-is : (q u : ℕ) → closest q u ≡ cond (eqb (q % u * 2) u) (q / u + q / u % 2) (cond (leb (q % u * 2) u) (q / u) (suc (q / u)))
closest-is q u = go (q / u) (compare (q % u * 2) u)
  where
    go : (w : ℕ) (o : Ordering) → nearest w o ≡ cond (compare_is_eq o) (w + w % 2) (cond (is_le o) w (suc w))
    go w Ordering.lt = refl
    go w Ordering.eq = refl
    go w Ordering.gt = refl

pub under_half : (q u : ℕ) → q % u * 2 < u → closest q u ≡ q / u
under_half q u h = closest-is q u ∙ rw (ne_eqb (q % u * 2) u (λ e. omega arith), le-leb (q % u * 2) u (omega arith))

pub at-half : (q u : ℕ) → q % u * 2 ≡ u → closest q u ≡ q / u + q / u % 2
at-half q u h = closest-is q u ∙ rw (eq-eqb (q % u * 2) u)

pub over_half : (q u : ℕ) → u < q % u * 2 → closest q u ≡ q / u + 1
over_half q u h = closest-is q u ∙ rw (ne_eqb (q % u * 2) u (λ e. omega arith), lt-leb (q % u * 2) u) (omega arith)

-- of 53 digits or fewer: what is kept, and nothing from 54 places on
pub kept-le : (q d n : ℕ) → q < 2 ^ 53 → 53 ≤ n + d → closest q (2 ^ d) ≤ 2 ^ n
kept-le q d n h l = le_trans (nearest-le (q / 2 ^ d) (compare (q % 2 ^ d * 2) (2 ^ d))) (shr_lt n d (lt_of_lt_of_le h (pow_mono l)))

kept-ge : (q : ℕ) → 2 ^ 52 ≤ q → 2 ^ 23 ≤ closest q (2 ^ 29)
kept-ge q h = le_trans (omega arith) (nearest-ge (q / 2 ^ 29) (compare (q % 2 ^ 29 * 2) (2 ^ 29)))

pub none_kept : (q d : ℕ) → q < 2 ^ 53 → 54 ≤ d → closest q (2 ^ d) ≡ 0
none_kept q d Q D =
    let u : 2 ^ 54 ≤ 2 ^ d = pow_mono D in
    let l : q < 2 ^ d = omega arith in
    under_half q (2 ^ d) (rw (mod-eq_of_lt l) (omega arith)) ∙ div-eq_of_lt l

-- ---- a number that is a of the smallest singles: how many places are dropped, and the pattern
dropped : (a k : ℕ) → a < 2 ^ (24 + k) → (k ≡ 0) ⊎ (2 ^ (23 + k) ≤ a) → size a - 24 ≡ k
dropped a k h (inl e) = omega (arith, size-le a (24 + k) h)
dropped a k h (inr g) =
    let l : 23 + k < size a = lt_of_not-le (λ (m : size a ≤ 23 + k). not-le_of_lt (lt_of_lt_of_le (size-lt a) (pow_mono m)) g) in
    omega (arith, size-le a (24 + k) h)

abbrev pattern : Bool → ℕ → ℕ
pattern s a = cond s (2 ^ 31) 0 + (size a - 24) * 2 ^ 23 + a / 2 ^ (size a - 24)

pub value-bits : (v : Float) (s : Bool) (a : ℕ) → HasValue v s a (2 ^ 149) → to_bits binary32 v ≡ pattern s a
unfolding to_bits
value-bits nan s a h = absurd h
value-bits (inf t) s a h = absurd h
value-bits (fin t m e) s a h = rw (h.1, mul-div_cancel a (down_pos e), h.0)

units_bits : (s : Bool) (c k : ℕ) → c * 2 ^ k < 2 ^ 277 → to_bits binary32 (units binary32 s c k) ≡ pattern s (c * 2 ^ k)
units_bits s c k h = value-bits (units binary32 s c k) s (c * 2 ^ k) (units_val binary32 s c k h)

-- fewer than 25 digits
few : (s : Bool) (c k : ℕ) → c < 2 ^ 24 → k ≤ 253 → (k ≡ 0) ⊎ (2 ^ 23 ≤ c) → to_bits binary32 (units binary32 s c k) ≡ cond s (2 ^ 31) 0 + (k * 2 ^ 23 + c)
few s c k C K g =
    let e : 24 + k ≤ 277 = omega arith in
    units_bits s c k (lt_of_lt_of_le (shl_lt 24 k C) (pow_mono e))
    ∙ rw (dropped (c * 2 ^ k) k (shl_lt 24 k C) (enough g), shl-shr c k) (add_assoc (cond s (2 ^ 31) 0) (k * 2 ^ 23) c)
  where
    enough : (k ≡ 0) ⊎ (2 ^ 23 ≤ c) → (k ≡ 0) ⊎ (2 ^ (23 + k) ≤ c * 2 ^ k)
    enough (inl e) = inl e
    enough (inr l) = inr (rw pow-add (mul-le-mul_right (2 ^ k) l))

-- all 25, at a carry: one place more, and at the topmost place an infinity
full : (s : Bool) (k : ℕ) → k ≤ 253 → to_bits binary32 (units binary32 s (2 ^ 24) k) ≡ cond s (2 ^ 31) 0 + (k * 2 ^ 23 + 2 ^ 24)
full s k K = elim (eq-or-lt_of_le K) [
  | inl e ↦ rw e (brim s)
  | inr l ↦
      let m : 24 + k < 277 = omega arith in
      let below : 2 ^ 24 * 2 ^ k < 2 ^ 277 = rw pow-add at (pow-lt m) in
      units_bits s (2 ^ 24) k below
      ∙ ap (pattern s) more
      ∙ sym (units_bits s (2 ^ 23) (suc k) (rw more at below))
      ∙ few s (2 ^ 23) (suc k) (lit≤ tt) l (inr (lit≤ tt))
      ∙ omega arith
]
  where
    more : 2 ^ 24 * 2 ^ k ≡ 2 ^ 23 * 2 ^ suc k
    more = omega arith

    brim : (s : Bool) → to_bits binary32 (units binary32 s (2 ^ 24) 253) ≡ cond s (2 ^ 31) 0 + (253 * 2 ^ 23 + 2 ^ 24)
    brim s = unfold units to_bits in refl

units_pattern : (s : Bool) (c k : ℕ) → c ≤ 2 ^ 24 → k ≤ 253 → (k ≡ 0) ⊎ (2 ^ 23 ≤ c)
    → to_bits binary32 (units binary32 s c k) ≡ cond s (2 ^ 31) 0 + (k * 2 ^ 23 + c)
units_pattern s c k C K g = elim (eq-or-lt_of_le C) [
  | inl e ↦ rw e (full s k K)
  | inr l ↦ few s c k l K g
]

units_over : (s : Bool) (c k : ℕ) → 2 ^ 23 ≤ c → 254 ≤ k → units binary32 s c k ≡ inf s
unfolding units
units_over s c k C K = rw (le-ltb (c * 2 ^ k) (2 ^ 277) (mul-le-mul C (pow_mono K)))

-- ---- q * 2 ^ j of the smallest doubles: k places are dropped of its units, and q is rounded to a multiple of 2 ^ d
scale : (q j a d l k : ℕ) → j + a + d ≡ l + k → q * 2 ^ j * 2 ^ a * 2 ^ d ≡ q * (2 ^ l * 2 ^ k)
scale q j a d l k e = left ∙ ap (λ (y : ℕ). q * 2 ^ y) e ∙ ap (λ (y : ℕ). q * y) (pow-add 2 l k)
  where
    left : q * 2 ^ j * 2 ^ a * 2 ^ d ≡ q * 2 ^ (j + a + d)
    left = simp (pow-add, mul_assoc)

module _ (s : Bool) (q j k d : ℕ) (Q : q < 2 ^ 53) (e : j + 149 + d ≡ 1074 + k) (D : 29 ≤ d) (g : (k ≡ 0) ⊎ ((d ≡ 29) × (2 ^ 52 ≤ q))) where
  whole : q * 2 ^ j * 2 ^ 149 / 2 ^ 1074 ≡ q * 2 ^ k / 2 ^ d
  whole =
      div_same (q * 2 ^ j * 2 ^ 149) (2 ^ 1074) (q * 2 ^ k) (2 ^ d) (pow_pos 1074) (pow_pos d)
      (scale q j 149 d 1074 k e ∙ sym (mul_assoc q (2 ^ 1074) (2 ^ k)) ∙ mul_right_comm q (2 ^ 1074) (2 ^ k))

  places : size (q * 2 ^ j * 2 ^ 149 / 2 ^ 1074) - 24 ≡ k
  places = rw whole (dropped (q * 2 ^ k / 2 ^ d) k (shr_lt (24 + k) d (lt_of_lt_of_le (shl_lt 53 k Q) (pow_mono l))) (enough g))
    where
      l : 53 + k ≤ 24 + k + d
      l = omega arith

      enough : (k ≡ 0) ⊎ ((d ≡ 29) × (2 ^ 52 ≤ q)) → (k ≡ 0) ⊎ (2 ^ (23 + k) ≤ q * 2 ^ k / 2 ^ d)
      enough (inl z) = inl z
      enough (inr (z, h)) = inr (rw z ((le-div_iff_mul-le (pow_pos 29)).1 (rw (pow-add, mul_right_comm) (mul-le-mul_right (2 ^ k) h))))

  is-units : round binary32 s (q * 2 ^ j) (2 ^ 1074) ≡ units binary32 s (closest q (2 ^ d)) k
  is-units =
      round_is binary32 s (q * 2 ^ j) (2 ^ 1074)
      ∙ ap (λ (y : ℕ). core binary32 s (q * 2 ^ j * 2 ^ 149) (2 ^ 1074) y) places
      ∙ ap (λ (y : ℕ). units binary32 s y k)
      (closest_same (q * 2 ^ j * 2 ^ 149) (2 ^ 1074 * 2 ^ k) q (2 ^ d) (mul-pos (pow_pos 1074) (pow_pos k)) (pow_pos d) (scale q j 149 d 1074 k e))

  pub rounded : k ≤ 253 → to_bits binary32 (round binary32 s (q * 2 ^ j) (2 ^ 1074)) ≡ cond s (2 ^ 31) 0 + (k * 2 ^ 23 + closest q (2 ^ d))
  rounded K = ap (to_bits binary32) is-units ∙ units_pattern s (closest q (2 ^ d)) k (kept-le q d 24 Q (omega arith)) K (enough g)
    where
      enough : (k ≡ 0) ⊎ ((d ≡ 29) × (2 ^ 52 ≤ q)) → (k ≡ 0) ⊎ (2 ^ 23 ≤ closest q (2 ^ d))
      enough (inl z) = inl z
      enough (inr (z, h)) = inr (rw z (kept-ge q h))

-- past the largest single
pub overflow : (s : Bool) (q j : ℕ) → q < 2 ^ 53 → 2 ^ 52 ≤ q → 1150 ≤ j → round binary32 s (q * 2 ^ j) (2 ^ 1074) ≡ inf s
overflow s q j Q h J =
    is-units s q j (j - 896) 29 Q (omega arith) (lit≤ tt) (inr (refl, h)) ∙ units_over s (closest q (2 ^ 29)) (j - 896) (kept-ge q h) (omega arith)
