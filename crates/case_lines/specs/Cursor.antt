-- What a cursor has left.
-- Assumes nothing.
use Rattle.std.specs.Prelude.{ℕ, List}
use Rattle.case_lines.specs.declared.cursor.Given.{Given}

-- the bytes that no read took yet
abbrev pub left : Given → List ℕ
left g = g.left.now
