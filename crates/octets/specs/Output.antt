-- What a writer does to the bytes of a lent output.
-- Assumes nothing.
use Rattle.std.specs.Prelude.{ℕ, ◌+◌, ◌≡◌, ◌≤◌, cond, List, ◌++◌, ltb, length, drop, Result, Ok, Err}
use Rattle.std.specs.Borrow.{MutBor}
use Rattle.std.proofs.lemmas.List.Edits.{sets}
use Rattle.octets.specs.declared.output.Writer.{Writer}
use Rattle.octets.specs.declared.output.NoSpace.{NoSpace}

-- a writer that begins at a place of a lent output
pub record Begun (out : MutBor (List ℕ)) (at : ℕ) (w : Writer) : Type 0 where
  pub list : w.out.now ≡ out.now
  pub at_is : w.at ≡ at
  pub same : w.out.ghost_name ≡ out.ghost_name

-- n bytes have space from the writer's place on
abbrev pub Room : Writer → ℕ → Type 0
Room w n = w.at + n ≤ length w.out.now

-- `bytes` were put at the place of the writer `old`: `new` is the writer after, over the same output, and stands after the last of them.
-- That the output stays as long follows, and is said for whoever counts the space.
pub record Put (old : Writer) (bytes : List ℕ) (new : Writer) : Type 0 where
  pub list : new.out.now ≡ sets old.out.now old.at bytes
  pub next_is : new.at ≡ old.at + length bytes
  pub same : new.out.ghost_name ≡ old.out.ghost_name
  pub len : length new.out.now ≡ length old.out.now

abbrev pub no_space : NoSpace
no_space = record {}

-- refused where the output is shorter than the body
unfoldable pub answer : List ℕ → List ℕ → Result ℕ NoSpace
answer old body = cond (ltb (length old) (length body)) (Err no_space) (Ok (length body))

-- the output after: as it was where the body was refused, else the body from byte 0 and no further byte changed
unfoldable pub left : List ℕ → List ℕ → List ℕ
left old body = cond (ltb (length old) (length body)) old (body ++ drop (length body) old)

-- a whole body was written, or there was no space and nothing changed
pub record Written (old body new : List ℕ) (r : Result ℕ NoSpace) : Type 0 where
  pub answered : r ≡ answer old body
  pub list : new ≡ left old body
