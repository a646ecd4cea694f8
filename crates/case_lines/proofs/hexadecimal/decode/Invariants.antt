use Rattle.std.proofs.Common.{◌≡◌}
use Rattle.case_lines.proofs.hexadecimal.decode.Given as goal

abbrev pub invariant-loop-b : goal.invariant-loop-b
invariant-loop-b l = l.n ≡ l.b-index
