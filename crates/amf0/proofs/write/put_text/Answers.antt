-- `amf0::put_text` meets its contract: the marker and what `put_name` puts.
-- Assumes nothing.
use Rattle.octets.proofs.OutputLaws.{cons}
use Rattle.amf0.specs.Encode.{encode}
use Rattle.amf0.proofs.write.put_text.Goals as goal

pub returns-clause-put : goal.returns-clause-put
unfolding encode
returns-clause-put c =
    search cons
