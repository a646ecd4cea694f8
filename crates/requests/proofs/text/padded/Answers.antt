-- `padded` meets its contract: what is copied, and the zeros that are left.
-- Assumes nothing.
use Rattle.requests.specs.Texts.{stored}
use Rattle.requests.proofs.TextLaws.{padded-with}
use Rattle.requests.proofs.text.padded.Goals as goal

pub returns : goal.returns
unfolding stored
returns c = rw c.copy_from_slice.ensures.after (padded-with 255 c.args.s.now c.min-n.result c.min-n.ensures)
