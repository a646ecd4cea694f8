-- `bodies::write_connect` meets its contract: the name and the number, and the object; or no space.
-- Assumes nothing.
use borrow.Author.Rules.{rules}
use native.Mathlib.Omega.{arith}
use Rattle.octets.proofs.OutputLaws.{fitted, short}
use Rattle.bodies.specs.Bodies.{connect_body}
use Rattle.bodies.proofs.BodyLaws.{head-put, last-put, length-connect}
use Rattle.bodies.proofs.commands.write_connect.Goals as goal

pub returns-then-out-app : goal.returns-then-out-app
returns-then-out-app c = short (simp length-connect (omega arith))

pub returns : goal.returns
returns c = fitted c.put_connect_object.new.w c.new-w.ensures c.position.ensures (unfold connect_body in search (head-put, last-put)) (search rules) (simp length-connect (omega arith))
