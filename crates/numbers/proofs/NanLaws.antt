-- NaNs: which floats are none, and the pattern of one as a single.
-- Assumes nothing.
use mathlib.Core.Path.{◌≡◌, refl, sym}
use mathlib.Core.Bool.{Bool, true, false, not, true≢false}
use Prim.Native.Nat.{ℕ, ◌^◌, ◌≤◌}
use lib.Dec.{T}
use lib.IntN.{pos}
use lib.Ieee.{Float, nan, inf, fin, binary32, binary64, to_bits, is_nan, of_int, round}
use lib.Ieee.Back.{round_whole}
use lib.Ieee.Exact.{HasValue}

pub is-nan : (x : Float) → is_nan x ≡ true → x ≡ nan
unfolding is_nan
is-nan nan h = refl
is-nan (inf s) h = absurd (true≢false (sym h))
is-nan (fin s m e) h = absurd (true≢false (sym h))

-- a number is no NaN, a whole number of 53 digits among them
value-no_nan : (x : Float) (s : Bool) (a c : ℕ) → HasValue x s a c → T (not (is_nan x))
unfolding is_nan
value-no_nan nan s a c h = absurd h
value-no_nan (inf t) s a c h = absurd h
value-no_nan (fin t m e) s a c h = tt

pub whole-no_nan : (n : ℕ) → n ≤ 2 ^ 53 → T (not (is_nan (of_int binary64 (pos n))))
unfolding of_int
whole-no_nan n h = value-no_nan (round binary64 false n 1) false n 1 (round_whole binary64 false n h)

pub nan-single : to_bits binary32 nan ≡ 0x7fc0_0000
unfolding to_bits
nan-single = refl
