-- A place in a list of bytes: where it starts, and how many bytes it has.
-- Assumes nothing.
use Rattle.std.specs.Prelude.{ℕ}
use Rattle.octets.specs.declared.span.Span.{Span}

abbrev pub span : ℕ → ℕ → Span
span start len = record { start = start; len = len }
