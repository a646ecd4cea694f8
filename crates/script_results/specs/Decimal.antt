-- Decimal numbers, written.
-- Assumes nothing.
use Rattle.std.specs.Prelude.{ℕ, zero, suc, ◌/◌, cond, List, ltb}
use Rattle.io.specs.Digits.{last_digits}

-- how many digits n takes, at most f + 1
unfoldable pub width : ℕ → ℕ → ℕ
width zero n = 1
width (suc f) n = cond (ltb n 10) 1 (suc (width f (n / 10)))

-- the digits of a number below 10 ^ 21, as few as hold it
unfoldable pub shown : ℕ → List ℕ
shown n = last_digits 10 (width 20 n) n
