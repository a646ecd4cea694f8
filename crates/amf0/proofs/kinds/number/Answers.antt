-- `amf0::kinds::number` meets its contract: too few bytes, or the number that was read.
-- Assumes nothing.
use Rattle.std.proofs.Common.{◌∙◌}
use Rattle.amf0.specs.Places.{kind_after}
use Rattle.amf0.proofs.PlaceLaws.{err-is, number-read, no-number}
use Rattle.amf0.proofs.kinds.number.Goals as goal

pub returns-in_err-ok_or : goal.returns-in_err-ok_or
unfolding kind_after
returns-in_err-ok_or c =
    err-is _ c.from_residual.ensures.0 ∙ rw (no-number 8 c.args.s.now c.args.at c.in_err-ok_or.ensures.value c.read_be64.ensures)

pub returns : goal.returns
unfolding kind_after
returns c = rw (number-read 8 c.args.s.now c.args.at c.in_ok-ok_or.ensures.value c.read_be64.ensures).is
