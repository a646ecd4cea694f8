-- What a bit pattern is read as, by its exponent's field: a number, or at the topmost field an infinity or a NaN.
-- Assumes nothing.
use mathlib.Core.Path.{◌≡◌, refl}
use mathlib.Core.Bool.{Bool, cond}
use Prim.Native.Nat.{ℕ, zero, suc, ◌+◌, ◌-◌, ◌*◌, ◌/◌, ◌%◌, ◌^◌, ◌<◌}
use native.Mathlib.Omega.{arith}
use borrow.Author.Tests.{eq-eqb, ne_eqb}
use lib.Dec.{leb, eqb}
use lib.Ieee.{nan, inf, Format, binary32, binary64, prec, low, hid, ones, top, of_fields, of_bits}
use lib.Ieee.Exact.{HasValue, odd_sign}

abbrev pub exponent : Format → ℕ → ℕ
exponent f b = b % top f / hid f

-- the digits t, with the leading one where the field is not 0
abbrev pub digits : Format → ℕ → ℕ → ℕ
digits f zero t = t
digits f (suc j) t = hid f + t

-- the size of a number, in units of the format's smallest one
abbrev pub amount : Format → ℕ → ℕ
amount f b = digits f (exponent f b) (b % hid f) * 2 ^ (exponent f b - 1)

pub leading : (f : Format) (x t : ℕ) → 0 < x → digits f x t ≡ hid f + t
leading f zero t h = absurd (omega arith)
leading f (suc j) t h = refl

pub digits_lt : (f : Format) (x b : ℕ) → digits f x (b % hid f) < 2 ^ prec f
digits_lt binary32 zero b = omega arith
digits_lt binary32 (suc j) b = omega arith
digits_lt binary64 zero b = omega arith
digits_lt binary64 (suc j) b = omega arith

number : (f : Format) (s : Bool) (x t : ℕ) → x < ones f → HasValue (of_fields f s x t) s (digits f x t * 2 ^ (x - 1)) (2 ^ low f)
unfolding of_fields
number f s zero t h = odd_sign (prec f) s t 0 (low f)
number f s (suc j) t h =
    let e : suc j - 1 ≡ j = omega arith in
    rw (e, ne_eqb (suc j) (ones f) (λ k. omega arith)) (odd_sign (prec f) s (hid f + t) j (low f))

pub finite : (f : Format) (b : ℕ) → exponent f b < ones f → HasValue (of_bits f b) (leb (top f) b) (amount f b) (2 ^ low f)
unfolding of_bits
finite f b h = number f (leb (top f) b) (exponent f b) (b % hid f) h

topmost : (f : Format) (s : Bool) (x t : ℕ) → x ≡ ones f → of_fields f s x t ≡ cond (eqb t 0) (inf s) nan
unfolding of_fields
topmost f s zero t h = absurd (omega arith)
topmost f s (suc j) t h = rw (eq-eqb (suc j) (ones f))

pub special : (f : Format) (b : ℕ) → exponent f b ≡ ones f → of_bits f b ≡ cond (eqb (b % hid f) 0) (inf (leb (top f) b)) nan
unfolding of_bits
special f b h = topmost f (leb (top f) b) (exponent f b) (b % hid f) h
