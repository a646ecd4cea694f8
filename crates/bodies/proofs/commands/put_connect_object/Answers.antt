-- `bodies::put_connect_object` meets its contract: four writes, one after the other.
-- Assumes nothing.
use Rattle.amf0.proofs.WriteLaws.{object-put, prop-put}
use Rattle.bodies.proofs.commands.put_connect_object.Goals as goal

pub returns : goal.returns
returns c = search (object-put, prop-put)
