-- `bodies::write_ping_request` meets its contract: event 6 with the time.
-- Assumes nothing.
use Rattle.bodies.specs.Bodies.{control_body}
use borrow.Author.Rules.{rules}
use Rattle.bodies.proofs.controls.write_ping_request.Goals as goal

pub returns : goal.returns
unfolding control_body
returns c = search rules
