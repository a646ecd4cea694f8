-- A Number's whole part, held within 32 bits, by the ranges of its pattern that `hold` tests.
-- Assumes nothing.
use mathlib.Core.Path.{◌≡◌, refl, sym, ap, ◌∙◌}
use mathlib.Core.Logic.{inl, inr}
use mathlib.Core.Bool.{Bool, true, false, cond}
use Prim.Native.Nat.{ℕ, ◌+◌, ◌-◌, ◌*◌, ◌/◌, ◌%◌, ◌^◌, ◌≤◌, ◌<◌, min}
use native.Mathlib.Nat.{div-eq_of_lt, le-div_iff_mul-le, lt_of_lt_of_le, le_trans, mul_assoc, mul-le-mul, le-add_right, eq-or-lt_of_le}
use native.Mathlib.Nat.{min-eq_left, min-eq_right}
use native.Mathlib.Omega.{arith}
use borrow.Author.Tests.{le-leb, lt-leb, eq-eqb, eqb-true}
use lib.Dec.{leb, eqb, lit≤}
use lib.Pow.{pow_pos, pow_mono, pow-add, shl_lt, shr_lt}
use lib.Ieee.{Float, nan, inf, fin, binary64, up, down, of_bits, to_unsigned}
use lib.Ieee.Exact.{HasValue}
use lib.Ieee.Fits.{down_pos}
use lib.Ieee.Nearest.{div_same}
use Rattle.numbers.specs.Numbers.{held}
use Rattle.numbers.proofs.Fields.{exponent, amount, leading, digits_lt, finite, special}

-- of a value that is a / c in size
value : (v : Float) (s : Bool) (a c : ℕ) → 0 < c → HasValue v s a c → to_unsigned 32 v ≡ cond s 0 (min (a / c) (2 ^ 32 - 1))
unfolding to_unsigned
value nan s a c C h = absurd h
value (inf t) s a c C h = absurd h
value (fin t m e) s a c C h = rw (h.0, div_same (m * up e) (down e) a c (down_pos e) C h.1)

special-held : (c s : Bool) → to_unsigned 32 (cond c (inf s) nan) ≡ cond c (cond s 0 (2 ^ 32 - 1)) 0
unfolding to_unsigned
special-held true s = refl
special-held false s = refl

-- the digits q, moved down by d places
cut : (q j d : ℕ) → j + d ≡ 1074 → q * 2 ^ j / 2 ^ 1074 ≡ q / 2 ^ d
cut q j d e =
    div_same (q * 2 ^ j) (2 ^ 1074) q (2 ^ d) (pow_pos 1074) (pow_pos d)
    (mul_assoc q (2 ^ j) (2 ^ d) ∙ ap (λ (z : ℕ). q * z) (sym (pow-add 2 j d) ∙ ap (λ (z : ℕ). 2 ^ z) e))

pub cut_lt : (q d : ℕ) → q < 2 ^ 53 → 21 ≤ d → q / 2 ^ d < 2 ^ 32
cut_lt q d h l = let e : 53 ≤ 32 + d = omega arith in shr_lt 32 d (lt_of_lt_of_le h (pow_mono e))

module _ (b : ℕ) where
  number : exponent binary64 b < 2047 → held b ≡ cond (leb (2 ^ 63) b) 0 (min (amount binary64 b / 2 ^ 1074) (2 ^ 32 - 1))
  number h = value (of_bits binary64 b) (leb (2 ^ 63) b) (amount binary64 b) (2 ^ 1074) (pow_pos 1074) (finite binary64 b h)

  no_number : exponent binary64 b ≡ 2047 → held b ≡ cond (eqb (b % 2 ^ 52) 0) (cond (leb (2 ^ 63) b) 0 (2 ^ 32 - 1)) 0
  no_number h = ap (to_unsigned 32) (special binary64 b h) ∙ special-held (eqb (b % 2 ^ 52) 0) (leb (2 ^ 63) b)

  pub below_one : b < 0x3ff0_0000_0000_0000 → held b ≡ 0
  below_one h =
      let e : 53 + (exponent binary64 b - 1) ≤ 1074 = omega arith in
      let l : amount binary64 b < 2 ^ 1074 = lt_of_lt_of_le (shl_lt 53 (exponent binary64 b - 1) (digits_lt binary64 (exponent binary64 b) b)) (pow_mono e) in
      number (omega arith) ∙ rw (lt-leb (2 ^ 63) b (omega arith), div-eq_of_lt l)

  pub from_one : 0x3ff0_0000_0000_0000 ≤ b → b < 0x41f0_0000_0000_0000 → held b ≡ (2 ^ 52 + b % 2 ^ 52) / 2 ^ (1075 - b / 2 ^ 52)
  from_one l h =
      let q = 2 ^ 52 + b % 2 ^ 52 in
      number (omega arith)
      ∙ rw (lt-leb (2 ^ 63) b (omega arith), leading binary64 (exponent binary64 b) (b % 2 ^ 52) (omega arith))
      (rw (cut q (exponent binary64 b - 1) (1075 - b / 2 ^ 52) (omega arith))
      (min-eq_left (omega (arith, cut_lt q (1075 - b / 2 ^ 52) (omega arith) (omega arith)))))

  pub from-top : 0x41f0_0000_0000_0000 ≤ b → b ≤ 0x7ff0_0000_0000_0000 → held b ≡ 4294967295
  from-top l h = elim (eq-or-lt_of_le h) [
    | inl e ↦ no_number (omega arith) ∙ rw (eq-eqb (b % 2 ^ 52) 0 (omega arith), lt-leb (2 ^ 63) b (omega arith))
    | inr k ↦
        let e : 1054 ≤ exponent binary64 b - 1 = omega arith in
        number (omega arith)
        ∙ rw (lt-leb (2 ^ 63) b (omega arith), leading binary64 (exponent binary64 b) (b % 2 ^ 52) (omega arith))
        (min-eq_right ((le-div_iff_mul-le (pow_pos 1074)).1 (le_trans (lit≤ tt) (mul-le-mul (le-add_right (2 ^ 52) (b % 2 ^ 52)) (pow_mono e)))))
  ]

  -- a NaN, or a sign
  pub past_top : 0x7ff0_0000_0000_0000 < b → held b ≡ 0
  past_top l = elim (eq-or-lt_of_le (top b)) [
    | inl e ↦ no_number e ∙ go e (eqb (b % 2 ^ 52) 0) refl
    | inr h ↦ number h ∙ rw (le-leb (2 ^ 63) b (omega arith))
  ]
    where
      top : (b : ℕ) → exponent binary64 b ≤ 2047
      top b = omega arith

      go : exponent binary64 b ≡ 2047 → (c : Bool) → eqb (b % 2 ^ 52) 0 ≡ c → cond c (cond (leb (2 ^ 63) b) 0 (2 ^ 32 - 1)) 0 ≡ 0
      go e true h = rw (le-leb (2 ^ 63) b (omega (arith, eqb-true (b % 2 ^ 52) 0 h)))
      go e false h = refl
