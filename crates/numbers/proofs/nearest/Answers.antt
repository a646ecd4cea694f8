-- `numbers::nearest` meets its contract, by how twice the remainder compares with the divisor.
-- Assumes nothing.
use mathlib.Core.Path.{sym}
use native.Mathlib.Nat.{mod-lt, div-le_self}
use native.Mathlib.Omega.{arith}
use Rattle.numbers.proofs.RoundLaws.{under_half, at-half, over_half}
use Rattle.numbers.proofs.nearest.Goals as goal

pub overflow_mul-rest : goal.overflow_mul-rest
overflow_mul-rest c = omega (arith, mod-lt c.args.q c.requires.1)

pub overflow_add-result : goal.overflow_add-result
overflow_add-result c = omega (arith, div-le_self c.args.q c.args.u)

pub overflow_add-result-else-rest-u-2 : goal.overflow_add-result-else-rest-u-2
overflow_add-result-else-rest-u-2 c = omega (arith, div-le_self c.args.q c.args.u)

pub returns-then-rest-u : goal.returns-then-rest-u
returns-then-rest-u c = sym (under_half _ _ c.if-rest-u.true)

pub returns-then-rest-u-2 : goal.returns-then-rest-u-2
returns-then-rest-u-2 c = sym (at-half _ _ c.if-rest-u-2.true)

pub returns-else-rest-u-2 : goal.returns-else-rest-u-2
returns-else-rest-u-2 c = sym (over_half _ _ (omega arith))
