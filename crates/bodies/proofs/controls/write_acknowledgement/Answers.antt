-- `bodies::write_acknowledgement` meets its contract: the library's four bytes of the number.
-- Assumes nothing.
use Rattle.octets.proofs.BigEndianLaws.{high_first}
use Rattle.bodies.proofs.controls.write_acknowledgement.Goals as goal

pub returns : goal.returns
returns c = rw (c.to_be_bytes.ensures, high_first 4 c.args.n) at c.write_bytes.ensures
