-- There and back, for other crates to cite: a whole number or a single that is sent as a Number is read back as it was.
-- Assumes nothing.
use mathlib.Core.Path.{◌≡◌, refl, sym, ap, ◌∙◌}
use mathlib.Core.Logic.{inl, inr}
use mathlib.Core.Bool.{not}
use Prim.Native.Nat.{ℕ, ◌+◌, ◌-◌, ◌*◌, ◌%◌, ◌^◌, ◌≤◌, ◌<◌}
use native.Mathlib.Nat.{lt_of_lt_of_le, eq-or-lt_of_le}
use native.Mathlib.Omega.{arith}
use lib.Dec.{T, leb, le→leb}
use lib.IntN.{pos}
use lib.Pow.{pow_pos, pow_mono, shl_lt}
use lib.Ieee.{Float, binary32, binary64, in_float, of_int, round, fits, nan_bits, of_bits, to_bits, to_unsigned}
use lib.Ieee.Back.{unsigned_back}
use lib.Ieee.Bits.{of_bits-to_bits, to_bits-of_bits, to_bits-lt, of_bits-fits, nan_bits_is, is_true}
use lib.Ieee.Exact.{HasValue, round_exact}
use lib.Ieee.Fits.{of_int-fits, fits_widens, round-fits}
use Rattle.numbers.specs.Numbers.{held, number_of, narrowed}
use Rattle.numbers.proofs.Fields.{exponent, digits, digits_lt, finite, special}
use Rattle.numbers.proofs.NanLaws.{is-nan, nan-single}
use Rattle.numbers.proofs.NarrowLaws.{narrowed-number, narrowed-special}
use Rattle.numbers.proofs.RoundLaws.{value-bits}

-- ---- a whole number
in-float : (n : ℕ) → n < 2 ^ 32 → T (in_float binary64 (pos n))
unfolding in_float
in-float n h = le→leb n (2 ^ 53) (omega arith)

-- the Number of n is held as n
pub held-number_of : (n : ℕ) → n < 2 ^ 32 → held (number_of n) ≡ n
held-number_of n h =
    ap (to_unsigned 32) (of_bits-to_bits binary64 (of_int binary64 (pos n)) (of_int-fits binary64 (pos n))) ∙ (unsigned_back binary64 32 n (in-float n h) h).1

pub number_of-lt : (n : ℕ) → number_of n < 2 ^ 64
number_of-lt n = to_bits-lt binary64 (of_int binary64 (pos n)) (of_int-fits binary64 (pos n))

-- ---- a single
-- what a pattern is read as is a whole amount of the smallest singles, which is rounded to itself
narrowed-read : (p : ℕ) → narrowed (of_bits binary32 p) ≡ of_bits binary32 p
narrowed-read p = elim (eq-or-lt_of_le (top p)) [
  | inl e ↦ narrowed-special binary32 p e ∙ sym (special binary32 p e)
  | inr h ↦
      let q = digits binary32 (exponent binary32 p) (p % 2 ^ 23) in
      let j = exponent binary32 p - 1 in
      let v = of_bits binary32 p in
      let s = leb (2 ^ 31) p in
      let r = round binary32 s (q * 2 ^ j) (2 ^ 149) in
      let e : 24 + j ≤ 277 = omega arith in
      let few : q < 2 ^ 24 = digits_lt binary32 (exponent binary32 p) p in
      let exactly : HasValue r s (q * 2 ^ j) (2 ^ 149) =
      round_exact binary32 s (q * 2 ^ j) (2 ^ 149) q j (pow_pos 149) few (lt_of_lt_of_le (shl_lt 24 j few) (pow_mono e)) refl in
      narrowed-number binary32 p h
      ∙ sym (of_bits-to_bits binary32 r (round-fits binary32 s (q * 2 ^ j) (2 ^ 149)))
      ∙ ap (of_bits binary32) (value-bits r s (q * 2 ^ j) exactly ∙ sym (value-bits v s (q * 2 ^ j) (finite binary32 p h)))
      ∙ of_bits-to_bits binary32 v (of_bits-fits binary32 p)
]
  where
    top : (p : ℕ) → exponent binary32 p ≤ 255
    top p = omega arith

-- sent as a double and narrowed again, it is the same single
pub narrowed-sent : (x : Float) → T (fits binary32 x) → narrowed (of_bits binary64 (to_bits binary64 x)) ≡ x
narrowed-sent x h =
    ap narrowed (of_bits-to_bits binary64 x (fits_widens x h) ∙ sym (of_bits-to_bits binary32 x h)) ∙ narrowed-read (to_bits binary32 x) ∙ of_bits-to_bits binary32 x h

-- so is its pattern, and that of a NaN is 7fc00000
pub single-back : (p : ℕ) → p < 2 ^ 32 → T (not (nan_bits binary32 p)) → to_bits binary32 (narrowed (of_bits binary64 (to_bits binary64 (of_bits binary32 p)))) ≡ p
single-back p h n = ap (to_bits binary32) (narrowed-sent (of_bits binary32 p) (of_bits-fits binary32 p)) ∙ to_bits-of_bits binary32 p h (rw nan_bits_is at n)

pub nan_back : (p : ℕ) → T (nan_bits binary32 p) → to_bits binary32 (narrowed (of_bits binary64 (to_bits binary64 (of_bits binary32 p)))) ≡ 0x7fc0_0000
nan_back p n =
    ap (to_bits binary32) (narrowed-sent (of_bits binary32 p) (of_bits-fits binary32 p) ∙ is-nan (of_bits binary32 p) (is_true _ (rw nan_bits_is at n))) ∙ nan-single

-- what is sent is a pattern of 64 bits
pub sent-lt : (x : Float) → T (fits binary64 x) → to_bits binary64 x < 2 ^ 64
sent-lt x h = to_bits-lt binary64 x h

pub widened_lt : (p : ℕ) → to_bits binary64 (of_bits binary32 p) < 2 ^ 64
widened_lt p = sent-lt (of_bits binary32 p) (fits_widens (of_bits binary32 p) (of_bits-fits binary32 p))
