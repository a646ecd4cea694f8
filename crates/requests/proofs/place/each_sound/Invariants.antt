use mathlib.Core.Path.{◌≡◌}
use lib.ListN.{drop}
use Rattle.requests.specs.Places.{places_sound}
use Rattle.requests.proofs.place.each_sound.Given as goal

abbrev pub invariant-loop-i : goal.invariant-loop-i
invariant-loop-i l = places_sound l.next l.places ≡ places_sound l.next (drop l.i l.places)
