-- The last property of each field's name is the last from i on, or else the one whose place is kept.
-- Assumes nothing.
use Rattle.std.proofs.Common.{length, ◌-◌, drop}
use Rattle.amf0.specs.Decode.{object_of, value}
use Rattle.messages.proofs.PlacesLaws.{Keeps}
use Rattle.messages.proofs.stream_metadata.places_in.Given as goal

abbrev pub invariant-loop-name : goal.invariant-loop-name
invariant-loop-name l = Keeps l.body (object_of (value 7) (drop l.at l.body)) l.i l.places

abbrev pub decreases-loop-name : goal.decreases-loop-name
decreases-loop-name l = length l.body - l.i
