-- Refusals in an order, each with its condition: which of them is the first whose condition holds.
-- Assumes nothing.
use Rattle.std.specs.Prelude.{◌≡◌, ◌⊎◌, List, [], ◌∷◌}
use Rattle.session.specs.declared.errors.ClientSessionError.{ClientSessionError}

pub record Row : Type 1 where
  pub says : ClientSessionError
  pub when : Type 0

infix 70 ◌if◌
abbrev pub ◌if◌ : ClientSessionError → Type 0 → Row
e if holds = record { says = e; when = holds }

-- e is the refusal of the first row whose condition holds
abbrev pub First : List Row → ClientSessionError → Type 0
First [] e = ⊥
First (r ∷ rs) e = (r.when × (r.says ≡ e)) ⊎ ((¬ r.when) × First rs e)

-- no condition holds
abbrev pub NoneOf : List Row → Type 0
NoneOf [] = Unit
NoneOf (r ∷ rs) = (¬ r.when) × NoneOf rs

-- one condition at most holds
abbrev pub OneAtMost : List Row → Type 0
OneAtMost [] = Unit
OneAtMost (r ∷ rs) = (r.when → NoneOf rs) × OneAtMost rs
