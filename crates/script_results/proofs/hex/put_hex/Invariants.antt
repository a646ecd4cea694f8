use lib.ListN.{take}
use Rattle.octets.specs.Output.{Put}
use Rattle.script_results.specs.Hex.{hex_text}
use Rattle.script_results.proofs.hex.put_hex.Given as goal

abbrev pub invariant-loop-b : goal.invariant-loop-b
invariant-loop-b l = Put l.initial.w (hex_text (take l.b-index l.s)) l.w
