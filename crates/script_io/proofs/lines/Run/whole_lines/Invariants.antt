use Rattle.std.proofs.Common.{◌-◌, ◌≤◌, length}
use Rattle.script_io.proofs.lines.Run.whole_lines.Given as goal

abbrev pub invariant-loop-end : goal.invariant-loop-end
invariant-loop-end l = (l.from ≤ l.end) × (l.from ≤ length l.s)

abbrev pub decreases-loop-end : goal.decreases-loop-end
decreases-loop-end l = length l.s - l.end
