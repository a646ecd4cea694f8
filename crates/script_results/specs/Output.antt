-- What a writer that starts at a place does to a lent output.
-- Assumes nothing.
use Rattle.std.specs.Prelude.{ℕ, ◌+◌, ◌≡◌, Bool, cond, List, ltb, length, Result, Ok, Err}
use Rattle.std.proofs.lemmas.List.Edits.{sets}
use Rattle.octets.specs.declared.output.NoSpace.{NoSpace}
use Rattle.octets.specs.Output.{no_space}

-- the text is longer than what is left from `at` on
abbrev pub too_long : List ℕ → ℕ → List ℕ → Bool
too_long old at text = ltb (length old) (at + length text)

-- the place after the text
unfoldable pub answer_at : List ℕ → ℕ → List ℕ → Result ℕ NoSpace
answer_at old at text = cond (too_long old at text) (Err no_space) (Ok (at + length text))

-- the output after: as it was where the text is too long, else with the text from `at` on and no other byte changed
unfoldable pub left_at : List ℕ → ℕ → List ℕ → List ℕ
left_at old at text = cond (too_long old at text) old (sets old at text)

-- a whole text was written from `at` on, or there was no space and nothing changed
pub record WrittenAt (old : List ℕ) (at : ℕ) (text new : List ℕ) (r : Result ℕ NoSpace) : Type 0 where
  pub answered : r ≡ answer_at old at text
  pub list : new ≡ left_at old at text
