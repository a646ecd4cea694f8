-- `amf0::put_number` meets its contract: the marker and the eight bytes after it.
-- Assumes nothing.
use Rattle.octets.proofs.OutputLaws.{cons}
use Rattle.amf0.specs.Encode.{encode}
use Rattle.amf0.proofs.write.put_number.Goals as goal

pub returns-clause-put : goal.returns-clause-put
unfolding encode
returns-clause-put c =
    search cons
