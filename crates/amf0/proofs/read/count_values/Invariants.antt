-- What there is to answer are the values from i on, with those that were counted before; i is at least n, since each value takes a byte.
-- Assumes nothing.
use Rattle.std.proofs.Common.{length, ◌-◌, ◌≡◌, ◌≤◌, drop}
use Rattle.amf0.specs.Decode.{all_values}
use Rattle.amf0.specs.Places.{count_of}
use Rattle.amf0.proofs.ReadLaws.{plus}
use Rattle.amf0.proofs.read.count_values.Given as goal

abbrev pub invariant-loop-i : goal.invariant-loop-i
invariant-loop-i l = (l.n ≤ l.i) × (count_of (all_values (drop l.at l.s)) ≡ plus l.n (count_of (all_values (drop l.i l.s))))

abbrev pub decreases-loop-i : goal.decreases-loop-i
decreases-loop-i l = length l.s - l.i
