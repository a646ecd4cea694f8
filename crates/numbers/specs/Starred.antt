-- Cases on numbers, as rows of one table. `proofs/Starred.antt` has the theorem: each row holds.
-- Assumes nothing.
use Rattle.std.specs.Prelude.{ℕ, List, [], ◌∷◌}
use Rattle.std.specs.Float.{binary32, binary64}
use Rattle.std.specs.Float.Ieee.{of_bits, to_bits}
use Rattle.numbers.specs.Numbers.{held, number_of, narrowed}

-- a row says that f gives y at x
pub data Row : Type 0 where
  row : (f : ℕ → ℕ) (x y : ℕ) → Row

abbrev pub given : Row → ℕ
given (row f x y) = f x

abbrev pub stated : Row → ℕ
stated (row f x y) = y

-- by patterns: a double as a single, and a single as a double
abbrev pub single : ℕ → ℕ
single b = to_bits binary32 (narrowed (of_bits binary64 b))

abbrev pub double : ℕ → ℕ
double p = to_bits binary64 (of_bits binary32 p)

-- The first five are starred in document 01, "Spindle cases": 1.9, NaN, -3 and 4294967296 are held, and 29.97 becomes a single.
-- The others are not: 2 and the largest number are sent; a NaN, ties to even down and up, a tie past the largest single, the smallest double, half of the
-- smallest single and just past it, the largest subnormal and an infinity become singles; and singles are sent, a NaN with sign and payload, the smallest
-- and infinity among them.
abbrev pub rows : List Row
rows =
    row held 0x3ffe_6666_6666_6666 1
    ∷ row held 0x7ff8_0000_0000_0000 0
    ∷ row held 0xc008_0000_0000_0000 0
    ∷ row held 0x41f0_0000_0000_0000 4294967295
    ∷ row single 0x403d_f851_eb85_1eb8 0x41ef_c28f
    ∷ row number_of 2 0x4000_0000_0000_0000
    ∷ row number_of 4294967295 0x41ef_ffff_ffe0_0000
    ∷ row single 0xfff0_0000_0000_0001 0x7fc0_0000
    ∷ row single 0x3ff0_0000_1000_0000 0x3f80_0000
    ∷ row single 0x3ff0_0000_3000_0000 0x3f80_0002
    ∷ row single 0x47ef_ffff_f000_0000 0x7f80_0000
    ∷ row single 0x8000_0000_0000_0001 0x8000_0000
    ∷ row single 0x3690_0000_0000_0000 0x0000_0000
    ∷ row single 0x3690_0000_0000_0001 0x0000_0001
    ∷ row single 0x380f_ffff_c000_0000 0x007f_ffff
    ∷ row single 0xfff0_0000_0000_0000 0xff80_0000
    ∷ row double 0xffff_ffff 0x7ff8_0000_0000_0000
    ∷ row double 0x41ef_c28f 0x403d_f851_e000_0000
    ∷ row double 0x0000_0001 0x36a0_0000_0000_0000
    ∷ row double 0x7f80_0000 0x7ff0_0000_0000_0000
    ∷ []
