-- `script_results::output::write_at` meets its contract: refused where it does not fit, else put.
-- Assumes nothing.
use borrow.Author.Rules.{rules}
use native.Mathlib.Omega.{arith}
use Rattle.script_results.proofs.OutputLaws.{fitted-at, short-at}
use Rattle.script_results.proofs.output.write_at.Goals as goal

pub returns-then-out-at : goal.returns-then-out-at
returns-then-out-at c = short-at (omega arith)

pub returns-then-out-at-2 : goal.returns-then-out-at-2
returns-then-out-at-2 c = short-at (omega arith)

pub returns : goal.returns
returns c = fitted-at c.put_bytes.new.self c.starting_at-w.ensures c.position.ensures c.put_bytes.ensures.put (search rules) (omega arith)
