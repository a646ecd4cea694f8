-- `octets::big_endian::read_be64` meets its contract: too few bytes, or the number that they are.
-- Assumes nothing.
use mathlib.Core.Path.{◌∙◌}
use Rattle.octets.proofs.BigEndianLaws.{absent, be-read}
use Rattle.octets.proofs.big_endian.read_be64.Goals as goal

pub returns : goal.returns
returns c = be-read 7 _ _ _ c.in_ok-bytes_at.ensures c.from_be_bytes.ensures

pub returns-in_err-bytes_at : goal.returns-in_err-bytes_at
returns-in_err-bytes_at c = c.from_residual.ensures ∙ absent _ _ _ _ c.in_err-bytes_at.ensures
