-- `octets::output::write_bytes` meets its contract: refused where it does not fit, else put from byte 0.
-- Assumes nothing.
use borrow.Author.Rules.{rules}
use native.Mathlib.Omega.{arith}
use Rattle.octets.proofs.OutputLaws.{fitted, short}
use Rattle.octets.proofs.output.write_bytes.Goals as goal

pub returns-then-out-src : goal.returns-then-out-src
returns-then-out-src c = short (omega arith)

pub returns : goal.returns
returns c = fitted c.put_bytes.new.self c.new-w.ensures c.position.ensures c.put_bytes.ensures.put (search rules) (omega arith)
