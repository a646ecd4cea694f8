-- `script_results::hex::write_hex` meets its contract: refused where the digits do not fit, else put.
-- Assumes nothing.
use borrow.Author.Rules.{rules}
use native.Mathlib.Omega.{arith}
use Rattle.script_results.proofs.HexLaws.{text-length}
use Rattle.script_results.proofs.OutputLaws.{fitted-at, short-at}
use Rattle.script_results.proofs.hex.write_hex.Goals as goal

pub returns-then-out-at : goal.returns-then-out-at
returns-then-out-at c = short-at (omega arith)

pub returns-then-out-at-2 : goal.returns-then-out-at-2
returns-then-out-at-2 c = short-at (rw text-length (omega arith))

pub returns : goal.returns
returns c = fitted-at c.put_hex.new.w c.starting_at-w.ensures c.position.ensures c.put_hex.ensures (search rules) (rw text-length (omega arith))
