-- `bodies::write_event` meets its contract: 2 bytes and 4 more, or no space.
-- Assumes nothing.
use borrow.Author.Rules.{rules}
use native.Mathlib.Omega.{arith}
use lib.ListN.{length-append}
use Rattle.octets.proofs.BigEndianLaws.{length_digits}
use Rattle.octets.proofs.OutputLaws.{then, fitted, short}
use Rattle.bodies.proofs.controls.write_event.Goals as goal

pub returns-then-out-lt6 : goal.returns-then-out-lt6
returns-then-out-lt6 c = short (simp (length-append, length_digits) (omega arith))

pub returns : goal.returns
returns c = fitted c.put_be32.new.self c.new-w.ensures c.position.ensures (search then) (search rules) (simp (length-append, length_digits) (omega arith))
