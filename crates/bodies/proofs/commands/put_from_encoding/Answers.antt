-- `bodies::put_from_encoding` meets its contract: `objectEncoding` 0, and what `put_tc_url` puts.
-- Assumes nothing.
use Rattle.amf0.proofs.WriteLaws.{prop-put}
use Rattle.bodies.proofs.commands.put_from_encoding.Goals as goal

pub returns : goal.returns
returns c = rw (← c.number_of.ensures) (search prop-put)
