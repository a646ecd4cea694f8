-- `octets::big_endian::read_be24` meets its contract: too few bytes, or the number that they are.
-- Assumes nothing.
use native.Mathlib.Omega.{arith}
use mathlib.Core.Path.{◌∙◌}
use Rattle.octets.proofs.BigEndianLaws.{found, found_length, absent, be_is}
use Rattle.octets.proofs.big_endian.read_be24.Goals as goal

pub returns : goal.returns
returns c =
    let e = c.in_ok-a.ensures in
    let w = be_is 2 _ (found_length _ _ e) in
    found _ _ _ _ e (omega arith)

pub returns-in_err-a : goal.returns-in_err-a
returns-in_err-a c = c.from_residual.ensures ∙ absent _ _ _ _ c.in_err-a.ensures
