-- `numbers::number_of` meets its contract: a whole number of 32 bits is a double exactly, and so no NaN.
-- Assumes nothing.
use native.Mathlib.Omega.{arith}
use Rattle.numbers.proofs.NanLaws.{whole-no_nan}
use Rattle.numbers.proofs.number_of.Goals as goal

pub float_to_bits-result : goal.float_to_bits-result
float_to_bits-result c = whole-no_nan _ (omega arith)
