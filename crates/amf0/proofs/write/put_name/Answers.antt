-- `amf0::put_name` meets its contract: the two bytes of the length and the text after them.
-- Assumes nothing.
use Rattle.octets.proofs.OutputLaws.{then}
use Rattle.amf0.specs.Encode.{text_bytes}
use Rattle.amf0.proofs.write.put_name.Goals as goal

pub returns-clause-put : goal.returns-clause-put
unfolding text_bytes
returns-clause-put c =
    search then
