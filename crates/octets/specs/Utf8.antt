-- UTF-8: the ABNF of RFC 3629 section 4, row by row.
-- Assumes nothing.
use Rattle.std.specs.Prelude.{ℕ, Bool, true, false, ◌&&◌, ◌||◌, ◌≡◌, leb}
use mathlib.Core.List.{List, [], ◌∷◌, ◌++◌, Memᴰ}

-- %xLO-HI
pub data Range : Type 0 where
  from_to : ℕ → ℕ → Range

-- UTF8-tail = %x80-BF
abbrev pub tail : Range
tail = from_to 0x80 0xbf

-- UTF8-char = UTF8-1 / UTF8-2 / UTF8-3 / UTF8-4, each alternative a row
abbrev pub rows : List (List Range)
rows =
    (from_to 0x00 0x7f ∷ [])
    ∷ (from_to 0xc2 0xdf ∷ tail ∷ [])
    ∷ (from_to 0xe0 0xe0 ∷ from_to 0xa0 0xbf ∷ tail ∷ [])
    ∷ (from_to 0xe1 0xec ∷ tail ∷ tail ∷ [])
    ∷ (from_to 0xed 0xed ∷ from_to 0x80 0x9f ∷ tail ∷ [])
    ∷ (from_to 0xee 0xef ∷ tail ∷ tail ∷ [])
    ∷ (from_to 0xf0 0xf0 ∷ from_to 0x90 0xbf ∷ tail ∷ tail ∷ [])
    ∷ (from_to 0xf1 0xf3 ∷ tail ∷ tail ∷ tail ∷ [])
    ∷ (from_to 0xf4 0xf4 ∷ from_to 0x80 0x8f ∷ tail ∷ tail ∷ [])
    ∷ []

abbrev pub within : Range → ℕ → Bool
within (from_to lo hi) x = leb lo x && leb x hi

-- a byte of each range of the row, in order
abbrev pub in_row : List Range → List ℕ → Bool
in_row [] [] = true
in_row [] (x ∷ xs) = false
in_row (r ∷ row) [] = false
in_row (r ∷ row) (x ∷ xs) = within r x && in_row row xs

-- UTF8-octets = *( UTF8-char )
pub data Octets : List ℕ → Type 0 where
  none : Octets []
  char : (row : List Range) (c s : List ℕ) → Memᴰ row rows → in_row row c ≡ true → Octets s → Octets (c ++ s)

-- The same as a test, which `proofs/Utf8Laws.antt` shows to be true of the `Octets` and of nothing else.
-- some row begins with a range that holds x, and f is true of its other ranges (asked, by the `let`, only where x is held)
unfoldable pub any_row : List (List Range) → ℕ → (List Range → Bool) → Bool
any_row [] x f = false
any_row ([] ∷ rs) x f = any_row rs x f
any_row ((r ∷ row) ∷ rs) x f = let rest = f row in (within r x && rest) || any_row rs x f

-- a byte of each range that is due, then characters to the end
unfoldable pub octets : List ℕ → List Range → Bool
octets [] [] = true
octets [] (r ∷ row) = false
octets (x ∷ xs) [] = any_row rows x (octets xs)
octets (x ∷ xs) (r ∷ row) = within r x && octets xs row

unfoldable pub utf8 : List ℕ → Bool
utf8 s = octets s []
