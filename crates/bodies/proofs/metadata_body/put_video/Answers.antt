-- `bodies::put_video` meets its contract: four fields, one after the other.
-- Assumes nothing.
use Rattle.octets.proofs.OutputLaws.{then}
use Rattle.bodies.proofs.FieldLaws.{end-put}
use Rattle.bodies.proofs.metadata_body.put_video.Goals as goal

pub returns-clause-put : goal.returns-clause-put
returns-clause-put c =
    then c.put_field.ensures.put (then c.put_field-2.ensures.put (then c.put_field-3.ensures.put (end-put c.put_field-4.ensures.put)))
