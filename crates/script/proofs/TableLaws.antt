-- Laws of a table of words, each row a word and what it stands for: the row that the code finds is the row that the definition finds.
-- Assumes nothing.
use mathlib.Core.Path.{◌≡◌, refl, sym, ap, ◌∙◌}
use mathlib.Core.Bool.{Bool}
use mathlib.Core.List.{List, [], ◌∷◌}
use Prim.Native.Nat.{ℕ}
use Rattle.std.specs.Prelude.{Option}
use Rattle.std.specs.List.{find}
use Rattle.std.specs.Option.{option_map}
use Rattle.std.proofs.Common.{Bor, map}
use Rattle.requests.proofs.BoolLaws.{by_cases}

-- a row whose word is lent, and what it holds
abbrev pub Row : Type 0 → Type 0
Row K = Bor (List ℕ) × K

abbrev pub held : {K : Type 0} → Row K → List ℕ × K
held row = (row.0.now, row.1)

module _ {K : Type 0} (test : List ℕ → Bool) where
  held-found : (rows : List (Row K)) → find (λ row. test row.0) (map held rows) ≡ option_map held (find (λ row. test row.0.now) rows)
  held-found [] = refl
  held-found (row ∷ rows) = by_cases (test row.0.now) (λ t. rw t) (λ t. rw t (held-found rows))

  pub row-is : (rows : List (Row K)) (table : List (List ℕ × K)) {r : Option (Row K)} → map held rows ≡ table
      → r ≡ find (λ row. test row.0.now) rows → find (λ row. test row.0) table ≡ option_map held r
  row-is rows table e h = ap (find (λ row. test row.0)) (sym e) ∙ held-found rows ∙ ap (option_map held) (sym h)
