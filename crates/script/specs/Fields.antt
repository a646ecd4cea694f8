-- A line's fields: what stands between its tabs, each with the place where it starts.
-- Assumes nothing.
use Rattle.std.specs.Prelude.{ℕ, suc, ◌+◌, ◌-◌, cond, List, [], ◌∷◌, eqb, leb, length, drop, take, get_or}
use Rattle.octets.specs.declared.span.Span.{Span}
use Rattle.script.specs.declared.fields.Fields.{Fields}

-- how many elements stand before the first b
unfoldable pub until : ℕ → List ℕ → ℕ
until b [] = 0
until b (x ∷ xs) = cond (eqb x b) 0 (suc (until b xs))

-- a line without the carriage return at its end
unfoldable pub bare : List ℕ → List ℕ
bare s = cond (eqb (get_or s (length s - 1) 0) 13) (take (length s - 1) s) s

pub record Field : Type 0 where
  pub start : ℕ
  pub bytes : List ℕ

abbrev pub field : ℕ → List ℕ → Field
field at b = record { start = at; bytes = b }

-- the place of a field's bytes, and the place after them
abbrev pub span_of : Field → Span
span_of f = record { start = f.start; len = length f.bytes }

abbrev pub end_of : Field → ℕ
end_of f = f.start + length f.bytes

-- the byte x at `at` before what follows it: the first field begins with it
abbrev pub begun : ℕ → ℕ → List Field → List Field
begun at x [] = field at (x ∷ []) ∷ []
begun at x (f ∷ fs) = field at (x ∷ f.bytes) ∷ fs

-- the fields of a last part of the line, which starts at `at`
unfoldable pub fields_from : ℕ → List ℕ → List Field
fields_from at [] = field at [] ∷ []
fields_from at (x ∷ xs) = cond (eqb x 9) (field at [] ∷ fields_from (suc at) xs) (begun at x (fields_from (suc at) xs))

-- those from the place `next` of the line on: none where that is past the line's end
unfoldable pub fields_at : List ℕ → ℕ → List Field
fields_at s next = cond (leb next (length s)) (fields_from next (drop next s)) []

-- those after the field that ends at `end`: none where the line ends there
abbrev pub fields_after : List ℕ → ℕ → List Field
fields_after s end = fields_at s (end + 1)

-- those that are left of a line
abbrev pub left : Fields → List Field
left f = fields_at f.line.now f.next
