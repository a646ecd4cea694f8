-- What holds at each line of a journal, one line at a time; and cases on a test.
-- Assumes nothing.
use Prim.Native.Nat.{ℕ}
use native.Mathlib.Omega.{arith}
use mathlib.Core.Path.{◌≡◌, refl, subst₂}
use mathlib.Core.List.{[], ◌∷◌, ◌++◌}
use Rattle.journal.specs.Lines.{Line, Journal, Each}

module _ (holds : Line → Journal → Type 0) where
  pub each_none : Each holds []
  each_none [] l before e = let z : ◌≡◌ {A = ℕ} 0 1 = cc in absurd (omega arith)
  each_none (m ∷ later) l before e = let z : ◌≡◌ {A = ℕ} 0 1 = cc in absurd (omega arith)

  pub each_more : (l : Line) (j : Journal) → holds l j → Each holds j → Each holds (l ∷ j)
  each_more l j h g [] m before e = let a : l ≡ m = cc in let b : j ≡ before = cc in subst₂ holds a b h
  each_more l j h g (k ∷ later) m before e = g later m before (let b : j ≡ later ++ (m ∷ before) = cc in b)

  pub each_first : (l : Line) (j : Journal) → Each holds (l ∷ j) → holds l j
  each_first l j g = g [] l j refl

  pub each-rest : (l : Line) (j : Journal) → Each holds (l ∷ j) → Each holds j
  each-rest l j g later m before e = g (l ∷ later) m before (let b : l ∷ j ≡ (l ∷ later) ++ (m ∷ before) = cc in b)
