-- `octets::output::Writer::put_be` meets its contract: the last N of the eight bytes of a number are its digits.
-- Assumes nothing.
use Rattle.octets.proofs.BigEndianLaws.{low_bytes}
use Rattle.octets.proofs.output.Writer.put_be.Goals as goal

pub returns-clause-put : goal.returns-clause-put
returns-clause-put g c = rw (c.to_be_bytes.ensures, low_bytes g.row.N c.args.n c.requires.in_range) at c.put_bytes.ensures.put
