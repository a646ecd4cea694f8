-- `bodies::write_publish` meets its contract: a command, the key and the kind's name, or no space.
-- Assumes nothing.
use borrow.Author.Rules.{rules}
use native.Mathlib.Omega.{arith}
use mathlib.Core.Path.{ap}
use lib.ListN.{length}
use Rattle.octets.proofs.OutputLaws.{fitted, short}
use Rattle.amf0.proofs.WriteLaws.{cons-put}
use Rattle.bodies.specs.Bodies.{publish_body}
use Rattle.bodies.proofs.BodyLaws.{args-put, last-put, length-publish}
use Rattle.bodies.proofs.commands.write_publish.Goals as goal

pub returns-then-out-key : goal.returns-then-out-key
returns-then-out-key c = short (simp length-publish (omega (arith, ap length c.name_of-name.ensures.name)))

pub returns : goal.returns
returns c = fitted c.put_text-2.new.w c.new-w.ensures c.position.ensures (unfold publish_body in rw (← c.name_of-name.ensures.name) (search (args-put, cons-put, last-put))) (search rules) (simp length-publish (omega (arith, ap length c.name_of-name.ensures.name)))
