-- What there is to answer is the last property of that name from i on, or else the best that was found before.
-- Assumes nothing.
use Rattle.std.proofs.Common.{length, ◌-◌, ◌≡◌, drop}
use Rattle.amf0.specs.Decode.{object_of, value as value_of}
use Rattle.amf0.specs.Places.{found_of}
use Rattle.amf0.proofs.FindLaws.{or_best}
use Rattle.amf0.proofs.properties.find_in.Given as goal

abbrev pub invariant-loop-start : goal.invariant-loop-start
invariant-loop-start l = found_of l.s l.name (object_of (value_of 7) (drop l.at l.s)) ≡ or_best l.best (found_of l.s l.name (object_of (value_of 7) (drop l.i l.s)))

abbrev pub decreases-loop-start : goal.decreases-loop-start
decreases-loop-start l = length l.s - l.i
