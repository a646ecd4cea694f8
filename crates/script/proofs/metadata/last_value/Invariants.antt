use Rattle.std.proofs.Common.{◌≡◌, ◌+◌, ◌-◌, None, length}
use Rattle.script.specs.Fields.{left}
use Rattle.script.specs.Metadata.{last_value}
use Rattle.script.proofs.metadata.last_value.Given as goal

abbrev pub invariant-loop-field : goal.invariant-loop-field
invariant-loop-field l = (l.fields.line.now ≡ l.initial.fields.line.now) × (last_value l.name (left l.initial.fields) None ≡ last_value l.name (left l.fields) l.best)

abbrev pub decreases-loop-field : goal.decreases-loop-field
decreases-loop-field l = length l.fields.line.now + 1 - l.fields.next
