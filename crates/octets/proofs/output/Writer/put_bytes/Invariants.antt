use mathlib.Core.Path.{◌≡◌}
use lib.ListN.{take}
use Rattle.octets.proofs.output.Writer.put_bytes.Given as goal

abbrev pub invariant-loop-i : goal.invariant-loop-i
invariant-loop-i l = take l.i l.to ≡ take l.i l.src
