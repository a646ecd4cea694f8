-- `bodies::write_delete_stream` meets its contract: a command and the stream's Number, or no space.
-- Assumes nothing.
use borrow.Author.Rules.{rules}
use native.Mathlib.Omega.{arith}
use Rattle.octets.proofs.OutputLaws.{fitted, short}
use Rattle.bodies.specs.Bodies.{delete_stream_body}
use Rattle.bodies.proofs.BodyLaws.{args-put, last-put, length-delete_stream}
use Rattle.bodies.proofs.commands.write_delete_stream.Goals as goal

pub returns-then-out-lt34 : goal.returns-then-out-lt34
returns-then-out-lt34 c = short (simp length-delete_stream (omega arith))

pub returns : goal.returns
returns c =
    fitted c.put_number.new.w c.new-w.ensures c.position.ensures (unfold delete_stream_body in rw (← c.number_of.ensures) (search (args-put, last-put))) (search rules) (simp length-delete_stream (omega arith))
