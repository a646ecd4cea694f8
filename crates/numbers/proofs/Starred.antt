-- Each row of the table of cases holds: one test of the whole table, which antt computes.
-- Assumes nothing.
use mathlib.Core.Path.{◌≡◌}
use mathlib.Core.Bool.{Bool, true, ◌&&◌}
use mathlib.Core.List.{List, [], ◌∷◌, Memᴰ}
use lib.Dec.{T, eqb, eqb→eq}
use lib.Ieee.{of_bits, to_bits, to_unsigned, of_int, round}
use lib.Ieee.Fits.{and_l, and_r}
use Rattle.numbers.specs.Numbers.{narrowed}
use Rattle.numbers.specs.Starred.{Row, given, stated, rows}

abbrev right : List Row → Bool
right [] = true
right (r ∷ rs) = eqb (given r) (stated r) && right rs

at : (rs : List Row) (r : Row) → T (right rs) → Memᴰ r rs → given r ≡ stated r
at [] r t x'' = elim x'' [ ]
at (x ∷ xs) r t (Memᴰ.head e) = rw e (eqb→eq (given x) (stated x) (and_l (eqb (given x) (stated x)) (right xs) t))
at (x ∷ xs) r t (Memᴰ.tail m) = at xs r (and_r (eqb (given x) (stated x)) (right xs) t) m

pub starred : (r : Row) → Memᴰ r rows → given r ≡ stated r
unfolding to_unsigned of_bits to_bits of_int narrowed round
starred r m = at rows r tt m
