-- `amf0::put_null` meets its contract: the marker alone.
-- Assumes nothing.
use borrow.Author.Rules.{rules}
use Rattle.amf0.specs.Encode.{encode}
use Rattle.amf0.proofs.write.put_null.Goals as goal

pub returns-clause-put : goal.returns-clause-put
unfolding encode
returns-clause-put c = search rules
