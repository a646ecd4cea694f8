-- `Text::as_slice` meets its contract.
-- Assumes nothing.
use Rattle.requests.specs.Texts.{text_of}
use Rattle.requests.proofs.text.Text.as_slice.Goals as goal

pub returns : goal.returns
unfolding text_of
returns c = c.part.ensures
