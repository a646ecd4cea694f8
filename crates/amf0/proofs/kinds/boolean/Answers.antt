-- `amf0::kinds::boolean` meets its contract: past the end, or whether the byte is a zero.
-- Assumes nothing.
use Rattle.std.proofs.Common.{drop, ◌∙◌}
use Rattle.octets.specs.BigEndian.{uint}
use Rattle.amf0.specs.Places.{kind_after}
use Rattle.amf0.proofs.PlaceLaws.{err-is, outcome-none, uint-read}
use Rattle.amf0.proofs.kinds.boolean.Goals as goal

pub returns-in_err-byte : goal.returns-in_err-byte
unfolding kind_after
returns-in_err-byte c =
    err-is _ c.from_residual.ensures.0 ∙ rw (outcome-none (uint 1 (drop c.args.at c.args.s.now)) c.in_err-byte.ensures)

pub returns : goal.returns
unfolding kind_after
returns c = rw (uint-read 1 c.args.s.now c.args.at _ c.in_ok-byte.ensures).is
