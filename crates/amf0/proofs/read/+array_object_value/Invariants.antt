-- The measures are twice the levels, and one more for an object and an array. An object's loop keeps what there is to answer for the properties from i
-- on, an array's for the values that are left from i on.
-- Assumes nothing.
use Rattle.std.proofs.Common.{length, ◌-◌, ◌≡◌, ◌≤◌, drop, ◌+◌}
use Rattle.amf0.specs.Decode.{object_of, values}
use Rattle.amf0.specs.Decode.{value as value_of}
use Rattle.amf0.specs.Places.{end_of}
use Rattle.amf0.proofs.read.+array_object_value.Given as goal

abbrev pub decreases-array : goal.decreases-array
decreases-array l = l.left + l.left + 1

abbrev pub decreases-object : goal.decreases-object
decreases-object l = l.left + l.left + 1

abbrev pub decreases-value : goal.decreases-value
decreases-value l = l.left + l.left

abbrev pub invariant-array-loop : goal.invariant-array-loop
invariant-array-loop l =
    (l.i ≤ length l.s) × (end_of l.s (values (value_of l.left) l.n (drop l.at l.s)) ≡ end_of l.s (values (value_of l.left) (l.n - l.counter) (drop l.i l.s)))

abbrev pub invariant-object-loop-e : goal.invariant-object-loop-e
invariant-object-loop-e l = end_of l.s (object_of (value_of l.left) (drop l.at l.s)) ≡ end_of l.s (object_of (value_of l.left) (drop l.i l.s))

abbrev pub decreases-object-loop-e : goal.decreases-object-loop-e
decreases-object-loop-e l = length l.s - l.i
