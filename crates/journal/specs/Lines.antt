-- The journal: every call and message since the session was opened, each with its outcome. A line is the call with its arguments, by which number
-- it was turned away, if it was, and what it sent.
-- Assumes nothing.
use Rattle.std.specs.Prelude.{ℕ, ◌≡◌, List, ◌∷◌, ◌++◌, Option}
use Rattle.session.specs.Calls.{Call, Message}

pub record Line : Type 0 where
  pub call : Call
  -- the number in document 01's table
  pub turned_away : Option ℕ
  pub sent : List Message

-- the newest line first
abbrev pub Journal : Type 0
Journal = List Line

-- at each line of a journal, with the lines before it
abbrev pub Each : (Line → Journal → Type 0) → Journal → Type 0
Each holds j = (later : List Line) (l : Line) (before : Journal) → j ≡ later ++ (l ∷ before) → holds l before
