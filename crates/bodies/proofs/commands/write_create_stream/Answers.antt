-- `bodies::write_create_stream` meets its contract: a command with no arguments, or no space.
-- Assumes nothing.
use native.Mathlib.Omega.{arith}
use Rattle.octets.proofs.OutputLaws.{fitted, short}
use Rattle.bodies.specs.Bodies.{create_stream_body}
use Rattle.bodies.proofs.BodyLaws.{length-create_stream}
use borrow.Author.Rules.{rules}
use Rattle.bodies.proofs.commands.write_create_stream.Goals as goal

pub returns-then-out-lt25 : goal.returns-then-out-lt25
returns-then-out-lt25 c = short (simp length-create_stream (omega arith))

pub returns : goal.returns
returns c = fitted c.put_command.new.w c.new-w.ensures c.position.ensures (unfold create_stream_body in search rules) (search rules) (simp length-create_stream (omega arith))
