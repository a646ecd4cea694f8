use Rattle.std.proofs.Common.{◌≡◌, drop}
use Rattle.script.specs.Decimal.{decimal_from, decimal_of}
use Rattle.script.proofs.decimal.number.Given as goal

abbrev pub invariant-loop-b : goal.invariant-loop-b
invariant-loop-b l = decimal_of l.s ≡ decimal_from l.n (drop l.b-index l.s)
