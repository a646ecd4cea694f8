-- `writing::encoder` names a text of at most 255 bytes.
use native.Mathlib.Nat.{min-le_left}
use Rattle.std.proofs.Common.{◌≤◌, Bool, true, false, List, ℕ, length, length-take, rules}
use Rattle.std.specs.Bool.{then_some}
use Rattle.octets.specs.declared.span.Span.{Span}
use Rattle.amf0.specs.Places.{stretch}
use Rattle.cases.proofs.writing.encoder.Goals as goal

at_most : (b : Bool) (s : List ℕ) → length (stretch s (then_some {T = Span} b (record { start = 0; len = 255 }))) ≤ 255
unfolding stretch
at_most true s = simp length-take (min-le_left 255 _)
at_most false s = search rules

pub returns : goal.returns
returns c = rw c.then_some.ensures (at_most c.args.is_there c.args.s.now)
