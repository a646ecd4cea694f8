-- Answers as numbers, for a caller in C. Assumes nothing.
use Rattle.std.specs.Prelude.{ℕ, Option, Some, None, Result, Ok, Err}
use Rattle.amf0.specs.declared.read.Malformed.{Malformed}

abbrev pub count_answer : Result ℕ Malformed → ℕ
count_answer (Ok n) = n
count_answer (Err e) = 18446744073709551615

abbrev pub found_answer : Result (Option ℕ) Malformed → ℕ
found_answer (Ok (Some n)) = n
found_answer (Ok None) = 18446744073709551615
found_answer (Err e) = 18446744073709551615
