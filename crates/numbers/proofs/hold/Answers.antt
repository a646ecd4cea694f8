-- `numbers::hold` meets its contract: `proofs/HoldLaws.antt` has the law of each range of patterns.
-- Assumes nothing.
use mathlib.Core.Path.{sym}
use native.Mathlib.Omega.{arith}
use Rattle.numbers.proofs.HoldLaws.{below_one, cut_lt, from_one, from-top, past_top}
use Rattle.numbers.proofs.hold.Goals as goal

pub overflow_cast-result : goal.overflow_cast-result
overflow_cast-result c = record { fits = cut_lt _ _ (omega arith) (omega arith) }

pub returns-then-bits-lt4607182418800017408 : goal.returns-then-bits-lt4607182418800017408
returns-then-bits-lt4607182418800017408 c = sym (below_one c.args.bits (omega arith))

pub returns-then-bits-lt4751297606875873280 : goal.returns-then-bits-lt4751297606875873280
returns-then-bits-lt4751297606875873280 c = sym (from_one c.args.bits (omega arith) (omega arith))

pub returns-then-bits-le9218868437227405312 : goal.returns-then-bits-le9218868437227405312
returns-then-bits-le9218868437227405312 c = sym (from-top c.args.bits (omega arith) (omega arith))

pub returns-else-bits-le9218868437227405312 : goal.returns-else-bits-le9218868437227405312
returns-else-bits-le9218868437227405312 c = sym (past_top c.args.bits (omega arith))
