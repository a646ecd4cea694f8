-- `bodies::put_names` meets its contract: three writes, one after the other.
-- Assumes nothing.
use Rattle.octets.proofs.OutputLaws.{then}
use Rattle.bodies.proofs.metadata_body.put_names.Goals as goal

pub returns-clause-put : goal.returns-clause-put
returns-clause-put c = search then
