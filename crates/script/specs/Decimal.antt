-- Decimal numbers, read.
-- Assumes nothing.
use Rattle.std.specs.Prelude.{ℕ, ◌+◌, ◌-◌, ◌*◌, cond, List, [], ◌∷◌, ltb, Option, Some, None}

-- the digits one after the other, a the value so far; none where a byte is no digit or the value is past a u32
unfoldable pub decimal_from : ℕ → List ℕ → Option ℕ
decimal_from a [] = Some a
decimal_from a (x ∷ xs) =
    cond (ltb x 48) None (cond (ltb 57 x) None
    (cond (ltb 4294967295 (a * 10 + (x - 48))) None (decimal_from (a * 10 + (x - 48)) xs)))

-- one or more digits
unfoldable pub decimal_of : List ℕ → Option ℕ
decimal_of [] = None
decimal_of (x ∷ xs) = decimal_from 0 (x ∷ xs)
