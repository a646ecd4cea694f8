use Rattle.std.proofs.Common.{◌≡◌, ◌+◌, ◌-◌, length}
use Rattle.script.specs.Fields.{left}
use Rattle.script.specs.Metadata.{check_fields}
use Rattle.script.proofs.metadata.check_fields.Given as goal

abbrev pub invariant-loop-word : goal.invariant-loop-word
invariant-loop-word l = (l.fields.line.now ≡ l.initial.fields.line.now) × (check_fields (left l.initial.fields) ≡ check_fields (left l.fields))

abbrev pub decreases-loop-word : goal.decreases-loop-word
decreases-loop-word l = length l.fields.line.now + 1 - l.fields.next
