use Rattle.std.specs.Io.KnownBytes.{Keeps}
use Rattle.case_lines.specs.Waiting.{written}
use Rattle.case_lines.proofs.waiting.OutputWrite.flush.Given as goal

abbrev pub invariant-loop-self : goal.invariant-loop-self
invariant-loop-self g l = Keeps (written g.W.Write.contents l.initial.self) (written g.W.Write.contents l.self)

abbrev pub decreases-loop-self : goal.decreases-loop-self
decreases-loop-self g l = l.self.used
