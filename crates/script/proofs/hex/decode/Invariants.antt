use Rattle.std.proofs.Common.{◌≡◌, ◌*◌, drop}
use Rattle.std.proofs.lemmas.List.Edits.{sets}
use Rattle.script.specs.Hex.{pairs}
use Rattle.script.proofs.hex.decode.Given as goal

abbrev pub invariant-loop-i : goal.invariant-loop-i
invariant-loop-i l = sets l.initial.out 0 (pairs l.s) ≡ sets l.out l.i (pairs (drop (2 * l.i) l.s))
