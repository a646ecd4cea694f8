-- `bodies::put_last` meets its contract: three fields, one after the other, and the object's end.
-- Assumes nothing.
use Rattle.octets.proofs.OutputLaws.{then}
use Rattle.bodies.proofs.FieldLaws.{end-put}
use Rattle.bodies.proofs.metadata_body.put_last.Goals as goal

pub returns : goal.returns
returns c = search (then, end-put)
