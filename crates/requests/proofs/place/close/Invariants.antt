use mathlib.Core.Path.{◌≡◌}
use mathlib.Core.List.{◌++◌}
use lib.ListN.{take, drop}
use Rattle.requests.specs.Places.{without}
use Rattle.requests.proofs.place.close.Given as goal

abbrev pub invariant-loop-place : goal.invariant-loop-place
invariant-loop-place l = l.places ≡ without l.number.0 (take l.place-index l.initial.places) ++ drop l.place-index l.initial.places
