-- Hexadecimal text, of both cases.
-- Assumes nothing.
use Rattle.std.specs.Prelude.{ℕ, ◌+◌, ◌-◌, ◌*◌, ◌%◌, Bool, cond, ◌&&◌, List, [], ◌∷◌, eqb, ltb, length, Option, Some, None, is_some, Result, Ok, Err}
use Rattle.std.specs.List.{list_all}
use Rattle.std.specs.Option.{unwrap_or}
use Rattle.octets.specs.Output.{left}
use Rattle.script.specs.declared.hex.UnhexError.{UnhexError}
use Rattle.script.specs.declared.hex.UnhexError.TheVariants.{NotHex, NoSpace}
use Rattle.script.specs.declared.reasons.Why.{Why}
use Rattle.script.specs.declared.reasons.Why.TheVariants.{Hex, BodyLength}

-- the value of a digit of either case
abbrev pub value_of : ℕ → Option ℕ
value_of b =
    cond (ltb b 48) None (cond (ltb b 58) (Some (b - 48))
    (cond (ltb b 65) None (cond (ltb b 71) (Some (b - 55))
    (cond (ltb b 97) None (cond (ltb b 103) (Some (b - 87)) None)))))

unfoldable pub is_digit : ℕ → Bool
is_digit b = is_some (value_of b)

-- an even number of digits
unfoldable pub is_hex : List ℕ → Bool
is_hex s = eqb (length s % 2) 0 && list_all is_digit s

unfoldable pub pair_value : ℕ → ℕ → ℕ
pair_value x y = 16 * unwrap_or (value_of x) 0 + unwrap_or (value_of y) 0

-- the bytes that digits stand for, two by two
unfoldable pub pairs : List ℕ → List ℕ
pairs [] = []
pairs (x ∷ []) = []
pairs (x ∷ y ∷ r) = pair_value x y ∷ pairs r

-- how many bytes they are, where the output has room for them
unfoldable pub unhex_of : List ℕ → List ℕ → Result ℕ UnhexError
unhex_of s old = cond (is_hex s) (cond (ltb (length old) (length (pairs s))) (Err NoSpace) (Ok (length (pairs s)))) (Err NotHex)

-- the output after: the bytes from its start, or as it was
unfoldable pub unhex_into : List ℕ → List ℕ → List ℕ
unhex_into s old = cond (is_hex s) (left old (pairs s)) old

-- why a line can't be read whose digits can't be decoded
abbrev pub why_of : UnhexError → Why
why_of NotHex = Hex
why_of NoSpace = BodyLength
