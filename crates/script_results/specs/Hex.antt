-- Hexadecimal text in lower case.
-- Assumes nothing.
use Rattle.std.specs.Prelude.{ℕ, ◌/◌, ◌%◌, List, [], ◌∷◌}
use Rattle.io.specs.Digits.{hex_digit_ascii}

-- two digits for each byte
unfoldable pub hex_text : List ℕ → List ℕ
hex_text [] = []
hex_text (x ∷ xs) = hex_digit_ascii (x / 16) ∷ hex_digit_ascii (x % 16) ∷ hex_text xs
