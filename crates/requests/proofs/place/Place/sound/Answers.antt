-- `Place::sound` meets its contract: by whether there is a request, and then test by test.
-- Assumes nothing.
use native.Mathlib.Omega.{arith}
use Rattle.std.proofs.lemmas.Grind.{common_steps}
use Rattle.requests.specs.Places.{place_sound}
use Rattle.requests.proofs.place.Place.sound.Goals as goal

pub returns-in_default : goal.returns-in_default
unfolding place_sound
returns-in_default c = rw c.in_default.is

pub returns-then-not-has_number : goal.returns-then-not-has_number
unfolding place_sound
returns-then-not-has_number c = rw c.in-Some.is (grind (arith, common_steps))

pub returns-else-not-has_number : goal.returns-else-not-has_number
unfolding place_sound
returns-else-not-has_number c = rw c.in-Some.is (grind (arith, common_steps))
