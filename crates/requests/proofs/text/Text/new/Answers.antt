-- `Text::new` meets its contract.
-- Assumes nothing.
use Rattle.requests.specs.Texts.{stored}
use Rattle.requests.proofs.text.Text.new.Goals as goal

pub returns : goal.returns
unfolding stored
returns c = rw c.padded.ensures
