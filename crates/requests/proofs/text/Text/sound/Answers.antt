-- `Text::sound` meets its contract: the length first, then the bytes of the text.
-- Assumes nothing.
use native.Mathlib.Omega.{arith}
use Rattle.std.proofs.lemmas.Grind.{common_steps}
use Rattle.requests.specs.Texts.{text_sound}
use Rattle.requests.proofs.text.Text.sound.Goals as goal

pub returns-then-self-le255 : goal.returns-then-self-le255
unfolding text_sound
returns-then-self-le255 c = grind (arith, common_steps)

pub returns-else-self-le255 : goal.returns-else-self-le255
unfolding text_sound
returns-else-self-le255 c = grind (arith, common_steps)
