-- `same` is the equality of lists, both ways.
-- Assumes nothing.
use Prim.Native.Nat.{ℕ}
use mathlib.Core.Path.{◌≡◌, refl, sym}
use mathlib.Core.Bool.{Bool, true, false, cond}
use mathlib.Core.List.{List, [], ◌∷◌}
use lib.Dec.{eqb}
use lib.Pointwise.{pointwise}
use lib.Seq.{take-length}
use Rattle.std.specs.Cmp.Lexicographic.{same_text, other_text}
use borrow.Author.Tests.{eq-eqb, eqb-true}
use native.Mathlib.Nat.{sub-zero}
use native.Mathlib.Omega.{arith}
use Rattle.octets.specs.Compare.{same}

pub same-eq : (a b : List ℕ) → same a b ≡ true → a ≡ b
unfolding same
same-eq [] [] h = refl
same-eq [] (y ∷ b) h = absurd (let z : ◌≡◌ {A = ℕ} 0 1 = cc in omega arith)
same-eq (x ∷ a) [] h = absurd (let z : ◌≡◌ {A = ℕ} 0 1 = cc in omega arith)
same-eq (x ∷ a) (y ∷ b) h = go (eqb x y) refl h (same-eq a b)
  where
    go : (t : Bool) → eqb x y ≡ t → cond t (same a b) false ≡ true → (same a b ≡ true → a ≡ b) → x ∷ a ≡ y ∷ b
    go true e h k = cc (eqb-true x y e, k h)
    go false e h k = absurd (let z : ◌≡◌ {A = ℕ} 0 1 = cc in omega arith)

same_self : (a : List ℕ) → same a a ≡ true
unfolding same
same_self [] = refl
same_self (x ∷ a) = rw (eq-eqb x x refl) (same_self a)

pub eq-same : {a b : List ℕ} → a ≡ b → same a b ≡ true
eq-same {a} e = rw (← e) (same_self a)

pub ne_same : (a b : List ℕ) → (a ≡ b → ⊥) → same a b ≡ false
ne_same a b h = go (same a b) refl
  where
    go : (t : Bool) → same a b ≡ t → t ≡ false
    go true e = absurd (h (same-eq a b e))
    go false e = refl

pub same-ne : (a b : List ℕ) → same a b ≡ false → a ≡ b → ⊥
same-ne a b h e = let t : same a b ≡ true = eq-same e in let z : ◌≡◌ {A = ℕ} 0 1 = cc in omega arith

-- the library's equality of slices
pub pointwise_same : (a b : List ℕ) → pointwise eqb a b ≡ same a b
pointwise_same a b = go (pointwise eqb a b) refl
  where
    go : (t : Bool) → t ≡ pointwise eqb a b → t ≡ same a b
    go true e = sym (eq-same (same_text a b e))
    go false e = sym (ne_same a b (other_text a b e))

-- A part of a list that is all of it. The code as it stands needs none of this: with it, a fault that looks at a part is refused for the bytes that it
-- leaves out, and not for being a part.
pub ruleset as_whole = (take-length, sub-zero)

pub ruleset equality = (pointwise_same, as_whole)
