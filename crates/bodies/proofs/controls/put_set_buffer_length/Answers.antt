-- `bodies::put_set_buffer_length` meets its contract: the event's number, the stream and the length.
-- Assumes nothing.
use Rattle.octets.proofs.OutputLaws.{then}
use Rattle.bodies.specs.Bodies.{control_body}
use Rattle.bodies.proofs.controls.put_set_buffer_length.Goals as goal

pub returns-clause-put : goal.returns-clause-put
unfolding control_body
returns-clause-put c = search then
