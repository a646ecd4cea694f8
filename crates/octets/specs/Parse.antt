-- What a reader finds at the front of a list of bytes: a meaning and the bytes after it, or that there is none.
-- Assumes nothing.
use Rattle.std.specs.Prelude.{ℕ, ◌-◌, cond, List, leb, length, take, drop}

pub data Parse (A : Type 0) : Type 0 where
  bad : Parse A
  got : A → List ℕ → Parse A

-- the next reader goes on with the rest
abbrev pub and_then : {A B : Type 0} → Parse A → (A → List ℕ → Parse B) → Parse B
and_then bad k = bad
and_then (got a r) k = k a r

-- n bytes
unfoldable pub field : ℕ → List ℕ → Parse (List ℕ)
field n s = cond (leb n (length s)) (got (take n s) (drop n s)) bad

-- the place in s at which its last bytes, `rest`, begin
abbrev pub place_of : List ℕ → List ℕ → ℕ
place_of s rest = length s - length rest
