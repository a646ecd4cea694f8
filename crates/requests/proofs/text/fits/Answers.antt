-- `fits` meets its contract: the length first, then the bytes.
-- Assumes nothing.
use native.Mathlib.Omega.{arith}
use Rattle.std.proofs.lemmas.Grind.{common_steps}
use Rattle.requests.specs.Texts.{fits}
use Rattle.requests.proofs.text.fits.Goals as goal

pub returns-then-s-le255 : goal.returns-then-s-le255
unfolding fits
returns-then-s-le255 c = grind (arith, common_steps)

pub returns-else-s-le255 : goal.returns-else-s-le255
unfolding fits
returns-else-s-le255 c = grind (arith, common_steps)
