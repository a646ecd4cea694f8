-- `bodies::write_play` meets its contract: two bodies, one after the other, or no space for them.
-- Assumes nothing.
use borrow.Author.Rules.{rules}
use native.Mathlib.Omega.{arith}
use lib.ListN.{length-append}
use Rattle.octets.proofs.OutputLaws.{then, fitted, short}
use Rattle.bodies.proofs.BodyLaws.{length-set_buffer_length, length-play}
use Rattle.bodies.proofs.commands.write_play.Goals as goal

pub returns-then-out-key : goal.returns-then-out-key
returns-then-out-key c = short (simp (length-append, length-set_buffer_length, length-play) (omega arith))

pub returns : goal.returns
returns c = fitted c.put_play.new.w c.new-w.ensures c.position.ensures (search then) (search rules) (simp (length-append, length-set_buffer_length, length-play) (omega arith))
