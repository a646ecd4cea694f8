-- Laws of decimal numbers: a digit further.
-- Assumes nothing.
use mathlib.Core.Path.{◌≡◌, refl, ◌∙◌}
use mathlib.Core.Bool.{cond}
use mathlib.Core.List.{List, [], ◌∷◌}
use Prim.Native.Nat.{ℕ, ◌+◌, ◌-◌, ◌*◌, ◌<◌, ◌≤◌}
use native.Mathlib.Numerals.{add-one}
use native.Mathlib.Omega.{arith}
use lib.Dec.{ltb}
use lib.ListN.{length, get_or, drop}
use lib.Seq.{drop-cons, drop-length}
use Rattle.std.specs.Prelude.{Some, None, ◌⊎◌}
use Rattle.std.proofs.Common.{⊎_elim}
use borrow.Author.Tests.{lt-ltb, le-ltb}
use Rattle.script.specs.Decimal.{decimal_from, decimal_of}

-- a digit further
dec-step : (a : ℕ) (s : List ℕ) (i : ℕ) → i < length s
    → decimal_from a (drop i s)
    ≡ cond (ltb (get_or s i 0) 48) None (cond (ltb 57 (get_or s i 0)) None
    (cond (ltb 4294967295 (a * 10 + (get_or s i 0 - 48))) None (decimal_from (a * 10 + (get_or s i 0 - 48)) (drop (i + 1) s))))
unfolding decimal_from
dec-step a s i h = rw (add-one, drop-cons s i 0 h)

pub dec-end : (a : ℕ) (s : List ℕ) (i : ℕ) → i ≡ length s → decimal_from a (drop i s) ≡ Some a
unfolding decimal_from
dec-end a s i h = rw (h, drop-length s)

-- no digit is no number; and the first digit comes after the value 0
pub dec-none : (s : List ℕ) → length s ≡ 0 → decimal_of s ≡ None
unfolding decimal_of
dec-none [] h = refl
dec-none (x ∷ xs) h = absurd (omega arith)

pub dec_first : (s : List ℕ) → (length s ≡ 0 → ⊥) → decimal_of s ≡ decimal_from 0 s
unfolding decimal_of
dec_first [] h = absurd (h refl)
dec_first (x ∷ xs) h = refl

-- a byte that is no digit
pub no_digit : (a : ℕ) (s : List ℕ) (i : ℕ) → i < length s → (get_or s i 0 < 48) ⊎ (57 < get_or s i 0) → decimal_from a (drop i s) ≡ None
no_digit a s i h d =
    dec-step a s i h ∙ ⊎_elim
    (λ l. rw (lt-ltb (get_or s i 0) 48 l))
    (λ g. let n : 48 ≤ get_or s i 0 = omega arith in rw (le-ltb (get_or s i 0) 48 n, lt-ltb 57 (get_or s i 0) g))
    d

-- a digit, with which the value is past a u32, or is not
module _ (a : ℕ) (s : List ℕ) (i : ℕ) (h : i < length s) (l : 48 ≤ get_or s i 0) (g : get_or s i 0 ≤ 57) where
  pub too_large : 4294967295 < a * 10 + (get_or s i 0 - 48) → decimal_from a (drop i s) ≡ None
  too_large m = dec-step a s i h ∙ rw (le-ltb (get_or s i 0) 48 l, le-ltb 57 (get_or s i 0) g, lt-ltb 4294967295 (a * 10 + (get_or s i 0 - 48)) m)

  pub digit_more : (n : ℕ) → n ≤ 4294967295 → n ≡ a * 10 + (get_or s i 0 - 48) → decimal_from a (drop i s) ≡ decimal_from n (drop (i + 1) s)
  digit_more n m e = dec-step a s i h ∙ rw (le-ltb (get_or s i 0) 48 l, le-ltb 57 (get_or s i 0) g, ← e, le-ltb 4294967295 n m)

-- what the reader of a number takes
pub ruleset digits = (dec-none, dec_first, dec-end, no_digit, too_large, digit_more)
