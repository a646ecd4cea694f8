-- Numbers as bytes, the most significant first: RTMP 1.0 section 4, "Byte Order, Alignment, and Time Format".
-- Assumes nothing.
use Rattle.std.specs.Prelude.{ℕ, zero, suc, ◌+◌, ◌*◌, ◌/◌, ◌%◌, ◌<◌, List, [], ◌∷◌, ◌++◌, get_or}
use Rattle.octets.specs.Parse.{Parse, bad, got, and_then, field}

-- every element of s is a byte
abbrev pub Bytes : List ℕ → Type 0
Bytes s = (i : ℕ) → get_or s i 0 < 256

-- the digits of s, in base 256, after the number a
abbrev pub more : ℕ → List ℕ → ℕ
more a [] = a
more a (x ∷ xs) = more (a * 256 + x) xs

abbrev pub be : List ℕ → ℕ
be s = more 0 s

-- the number that the first n bytes are
unfoldable pub uint : ℕ → List ℕ → Parse ℕ
uint n s = and_then (field n s) (λ b r. got (be b) r)

-- the n bytes of a number below 256 ^ n
unfoldable pub digits : ℕ → ℕ → List ℕ
digits zero x = []
digits (suc n) x = digits n (x / 256) ++ (x % 256 ∷ [])

-- what a reader of numbers answers: `is` of the number, or `short` where the bytes end before it does
abbrev pub read_as : {A : Type 0} → A → (ℕ → A) → Parse ℕ → A
read_as short is bad = short
read_as short is (got x r) = is x
