-- Byte strings written as texts, and compared. `proofs/CompareLaws.antt` shows that the test is equality of lists, both ways.
-- Assumes nothing.
use Rattle.std.specs.Prelude.{ℕ, ◌+◌, ◌-◌, ◌*◌, Bool, true, false, cond, List, [], ◌∷◌, eqb, ltb, take, drop}
use Prim.Native.Char.{Char, code}
use Prim.Native.String.{String}

-- a text in quotes as the codes of its characters: of ASCII, its bytes
abbrev pub ascii : String → List ℕ
ascii String.[] = []
ascii (String.◌∷◌ c s) = code c ∷ ascii s

-- a text of hexadecimal digits in lower case as the bytes that they are, two to a byte
abbrev pub digit_of : Char → ℕ
digit_of c = cond (ltb (code c) 58) (code c - 48) (code c - 87)

abbrev pub unhex : String → List ℕ
unhex String.[] = []
unhex (String.◌∷◌ a String.[]) = []
unhex (String.◌∷◌ a (String.◌∷◌ b s)) = (digit_of a * 16 + digit_of b) ∷ unhex s

-- byte by byte, to the end of both
unfoldable pub same : List ℕ → List ℕ → Bool
same [] [] = true
same [] (y ∷ ys) = false
same (x ∷ xs) [] = false
same (x ∷ xs) (y ∷ ys) = cond (eqb x y) (same xs ys) false

-- the part of s that starts at `start` and has `len` bytes, or those that are there
abbrev pub part : List ℕ → ℕ → ℕ → List ℕ
part s start len = take len (drop start s)
