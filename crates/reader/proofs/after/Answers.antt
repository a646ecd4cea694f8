-- `reader::after` meets its contract: the kind tells where a value ends, but of an object and an array.
-- Assumes nothing.
use native.Mathlib.Omega.{arith}
use mathlib.Core.Path.{◌≡◌, sym, ap, ◌∙◌}
use Rattle.std.specs.Prelude.{Ok}
use lib.ListN.{drop}
use Prim.Native.Nat.{◌+◌}
use mathlib.Core.Logic.{inl, inr}
use Rattle.amf0.specs.Decode.{top_value}
use Rattle.amf0.specs.Places.{end_of}
use Rattle.amf0.specs.declared.kinds.Kind.{Kind}
use Rattle.amf0.specs.declared.kinds.Kind.TheVariants as kind
use Rattle.reader.proofs.EndLaws.{Ends, EndTold, kind-told}
use Rattle.reader.proofs.after.Goals as goal
use Rattle.reader.proofs.after.Goals.{Start, In-Null}

told : (b : Start) (k : Kind) → b.args.kind ≡ k → EndTold b.args.s.now b.args.at k (end_of b.args.s.now (top_value (drop b.args.at b.args.s.now)))
told b k e = kind-told b.args.s.now b.args.at (Ok k) (ap Ok (sym e) ∙ b.requires)

-- null and undefined have no byte but their marker
one_byte : (c : In-Null) → Ends c.args.s.now (c.args.at + 1) (end_of c.args.s.now (top_value (drop c.args.at c.args.s.now)))
one_byte c =
    let b = (goal.at.In-Null c).Start in
    elim c.in-Null.is [ inl e ↦ told b kind.Null e | inr e ↦ told b kind.Undefined e ]

pub overflow_add-result : goal.overflow_add-result
overflow_add-result c = omega (arith, (told (goal.at.overflow_add-result c).Start _ c.in-Number.is).0)

pub overflow_add-result-in-Boolean : goal.overflow_add-result-in-Boolean
overflow_add-result-in-Boolean c = omega (arith, (told (goal.at.overflow_add-result-in-Boolean c).Start _ c.in-Boolean.is).0)

pub overflow_add-result-in-Text : goal.overflow_add-result-in-Text
overflow_add-result-in-Text c = omega (arith, (told (goal.at.overflow_add-result-in-Text c).Start _ c.in-Text.is).0)

pub overflow_add-result-in-Null : goal.overflow_add-result-in-Null
overflow_add-result-in-Null c = omega (arith, (one_byte (goal.at.overflow_add-result-in-Null c).In-Null).0)

pub returns-in-Number : goal.returns-in-Number
returns-in-Number c = (told (goal.at.returns-in-Number c).Start _ c.in-Number.is).1

pub returns-in-Boolean : goal.returns-in-Boolean
returns-in-Boolean c = (told (goal.at.returns-in-Boolean c).Start _ c.in-Boolean.is).1

pub returns-in-Text : goal.returns-in-Text
returns-in-Text c = (told (goal.at.returns-in-Text c).Start _ c.in-Text.is).1

pub returns-in-Null : goal.returns-in-Null
returns-in-Null c = (one_byte c).1
