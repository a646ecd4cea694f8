-- The pattern of the nearest single, by the ranges of the double's exponent field that `narrow_bits` tests.
-- Assumes nothing.
use mathlib.Core.Path.{◌≡◌, refl, ap, ◌∙◌}
use mathlib.Core.Logic.{inl, inr}
use mathlib.Core.Bool.{Bool, true, false, cond}
use Prim.Native.Nat.{ℕ, ◌+◌, ◌-◌, ◌*◌, ◌/◌, ◌%◌, ◌^◌, ◌≤◌, ◌<◌}
use native.Mathlib.Nat.{add-zero, zero-add}
use native.Mathlib.Omega.{arith}
use borrow.Author.Tests.{leb-true, leb-false, eq-eqb, ne_eqb}
use lib.Dec.{T, leb, eqb, lit≤}
use lib.Pow.{pow_pos}
use lib.Ieee.{Float, nan, inf, fin, Format, binary32, binary64, low, hid, ones, top, up, down, round, fits, of_bits, to_bits}
use lib.Ieee.Bits.{of_bits-to_bits}
use lib.Ieee.Exact.{HasValue}
use lib.Ieee.Fits.{down_pos, round-fits}
use lib.Ieee.Nearest.{closest}
use lib.Ieee.Scale.{round_same}
use Rattle.numbers.specs.Numbers.{narrowed}
use Rattle.numbers.proofs.Fields.{exponent, digits, amount, leading, digits_lt, finite, special}
use Rattle.numbers.proofs.NanLaws.{nan-single}
use Rattle.numbers.proofs.RoundLaws.{none_kept, rounded, overflow}

pub narrowed-fits : (v : Float) → T (fits binary32 (narrowed v))
unfolding narrowed fits
narrowed-fits nan = tt
narrowed-fits (inf s) = tt
narrowed-fits (fin s m e) = round-fits binary32 s (m * up e) (down e)

-- a single's pattern is read back as the single that it is of
pub read_back : (v : Float) (p : ℕ) → p ≡ to_bits binary32 (narrowed v) → of_bits binary32 p ≡ narrowed v
read_back v p e = ap (of_bits binary32) e ∙ of_bits-to_bits binary32 _ (narrowed-fits v)

-- ---- of a pattern of either format
value : (v : Float) (s : Bool) (a c : ℕ) → 0 < c → HasValue v s a c → narrowed v ≡ round binary32 s a c
unfolding narrowed
value nan s a c C h = absurd h
value (inf t) s a c C h = absurd h
value (fin t m e) s a c C h = rw h.0 (round_same binary32 s (m * up e) (down e) a c (down_pos e) C h.1)

pub narrowed-number : (f : Format) (b : ℕ) → exponent f b < ones f → narrowed (of_bits f b) ≡ round binary32 (leb (top f) b) (amount f b) (2 ^ low f)
narrowed-number f b h = value (of_bits f b) (leb (top f) b) (amount f b) (2 ^ low f) (pow_pos (low f)) (finite f b h)

pub narrowed-special : (f : Format) (b : ℕ) → exponent f b ≡ ones f → narrowed (of_bits f b) ≡ cond (eqb (b % hid f) 0) (inf (leb (top f) b)) nan
narrowed-special f b h = ap narrowed (special f b h) ∙ go (eqb (b % hid f) 0) (leb (top f) b)
  where
    go : (c s : Bool) → narrowed (cond c (inf s) nan) ≡ cond c (inf s) nan
    go true s = unfold narrowed in refl
    go false s = unfold narrowed in refl

-- ---- of a double's pattern b
abbrev single : ℕ → ℕ
single b = to_bits binary32 (narrowed (of_bits binary64 b))

sign : (b : ℕ) → b < 2 ^ 64 → cond (leb (2 ^ 63) b) (2 ^ 31) 0 ≡ b / 2 ^ 63 * 2 ^ 31
sign b h = go (leb (2 ^ 63) b) refl
  where
    go : (s : Bool) → leb (2 ^ 63) b ≡ s → cond s (2 ^ 31) 0 ≡ b / 2 ^ 63 * 2 ^ 31
    go true e = omega (arith, leb-true (2 ^ 63) b e)
    go false e = omega (arith, leb-false (2 ^ 63) b e)

infinite : (s : Bool) → to_bits binary32 (inf s) ≡ cond s (2 ^ 31) 0 + 0x7f80_0000
unfolding to_bits
infinite s = refl

module _ (b : ℕ) (B : b < 2 ^ 64) where
  -- a number, and one with a leading digit
  any : exponent binary64 b < 2047 → single b ≡ to_bits binary32 (round binary32 (leb (2 ^ 63) b) (amount binary64 b) (2 ^ 1074))
  any h = ap (to_bits binary32) (narrowed-number binary64 b h)

  led : 0 < exponent binary64 b → exponent binary64 b < 2047
      → single b ≡ to_bits binary32 (round binary32 (leb (2 ^ 63) b) ((2 ^ 52 + b % 2 ^ 52) * 2 ^ (exponent binary64 b - 1)) (2 ^ 1074))
  led l h = any h ∙ rw (leading binary64 (exponent binary64 b) (b % 2 ^ 52) l)

  pub at_zero : exponent binary64 b < 873 → single b ≡ b / 2 ^ 63 * 2 ^ 31
  at_zero h =
      let x = exponent binary64 b in
      let q = digits binary64 x (b % 2 ^ 52) in
      let Q = digits_lt binary64 x b in
      any (omega arith)
      ∙ rounded (leb (2 ^ 63) b) q (x - 1) 0 (925 - (x - 1)) Q (omega arith) (omega arith) (inl refl) (lit≤ tt)
      ∙ rw (none_kept q (925 - (x - 1)) Q (omega arith), sign b B, add-zero (b / 2 ^ 63 * 2 ^ 31))

  pub subnormal : 873 ≤ exponent binary64 b → exponent binary64 b < 897
      → single b ≡ b / 2 ^ 63 * 2 ^ 31 + closest (2 ^ 52 + b % 2 ^ 52) (2 ^ (926 - exponent binary64 b))
  subnormal l h =
      let x = exponent binary64 b in
      led (omega arith) (omega arith)
      ∙ rounded (leb (2 ^ 63) b) (2 ^ 52 + b % 2 ^ 52) (x - 1) 0 (926 - x) (omega arith) (omega arith) (omega arith) (inl refl) (lit≤ tt)
      ∙ rw (sign b B, zero-add)

  pub normal : 897 ≤ exponent binary64 b → exponent binary64 b < 1151
      → single b ≡ b / 2 ^ 63 * 2 ^ 31 + ((exponent binary64 b - 897) * 2 ^ 23 + closest (2 ^ 52 + b % 2 ^ 52) (2 ^ 29))
  normal l h =
      let x = exponent binary64 b in
      let q = 2 ^ 52 + b % 2 ^ 52 in
      led (omega arith) (omega arith)
      ∙ rounded (leb (2 ^ 63) b) q (x - 1) (x - 897) 29 (omega arith) (omega arith) (lit≤ tt) (inr (refl, omega arith)) (omega arith)
      ∙ rw (sign b B)

  pub too_large : 1151 ≤ exponent binary64 b → exponent binary64 b < 2047 → single b ≡ b / 2 ^ 63 * 2 ^ 31 + 0x7f80_0000
  too_large l h =
      let q = 2 ^ 52 + b % 2 ^ 52 in
      led (omega arith) h
      ∙ rw (overflow (leb (2 ^ 63) b) q (exponent binary64 b - 1) (omega arith) (omega arith) (omega arith), infinite, sign b B)

  pub at-infinity : 2047 ≤ exponent binary64 b → b % 2 ^ 52 ≡ 0 → single b ≡ b / 2 ^ 63 * 2 ^ 31 + 0x7f80_0000
  at-infinity l h = ap (to_bits binary32) (narrowed-special binary64 b (omega arith)) ∙ rw (eq-eqb (b % 2 ^ 52) 0 h, infinite, sign b B)

  pub at-nan : 2047 ≤ exponent binary64 b → (b % 2 ^ 52 ≡ 0 → ⊥) → single b ≡ 0x7fc0_0000
  at-nan l h = ap (to_bits binary32) (narrowed-special binary64 b (omega arith)) ∙ rw (ne_eqb (b % 2 ^ 52) 0 h, nan-single)
