use Rattle.std.proofs.Common.{◌≡◌, ◌≤◌, length}
use Rattle.cases.proofs.reading.events.Given as goal

abbrev pub invariant-loop-e : goal.invariant-loop-e
invariant-loop-e g l = (l.count ≤ l.e) × (length l.body ≡ length l.initial.body)
