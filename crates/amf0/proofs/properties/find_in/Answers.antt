-- `amf0::properties::find_in` meets its contract. The loop keeps that what is to be answered is the last property of that name from i on, or else
-- the best that was found before.
-- Assumes nothing.
use Rattle.std.proofs.Common.{arith, sym, ap, ◌∙◌}
use Rattle.std.specs.Prelude.{Ok}
use Rattle.amf0.specs.Decode.{value as value_of}
use Rattle.amf0.proofs.CutLaws.{cuts-value}
use Rattle.amf0.proofs.PlaceLaws.{err-is, at_read, bad-read}
use Rattle.amf0.proofs.TextLaws.{NamePlace, name-place, name-last, no_name}
use Rattle.amf0.proofs.ReadLaws.{object-bad, object-last, object-stop}
use Rattle.amf0.proofs.FindLaws.{PropertyRead, best-bad, best-last, find_hit, find_miss}
use Rattle.amf0.proofs.properties.find_in.Goals as goal
use Rattle.amf0.proofs.properties.find_in.Goals.{In-At, In_ok-i-in-At}

-- a name that was read, and the value after it
name-of : (c : In-At) → NamePlace c.args.s.now c.loop-start.i c.in-At.field-0.start c.in-At.field-0.len
name-of c = name-place _ _ c.in-At.field-0 (ap Ok (sym c.in-At.is) ∙ c.in_ok-name.ensures)

read : (c : In_ok-i-in-At) → PropertyRead c.args.s.now c.loop-start.i c.in-At.field-0.start c.in-At.field-0.len c.in_ok-i-in-At.i
read c =
    let n = name-of (goal.at.In_ok-i-in-At c).In-At in
    record { named = n; valued = at_read _ _ 1 _ _ n.within (cuts-value _ _) c.in_ok-i-in-At.ensures }

pub returns-in_err-name : goal.returns-in_err-name
returns-in_err-name c =
    let a = c.args in
    let v = c.loop-start in
    err-is _ c.from_residual.ensures.0
    ∙ best-bad a.s.now a.name.now v.best _ (object-bad (value_of 7) (cuts-value _) a.s.now v.i (no_name a.s.now _ c.in_err-name.ensures))
    ∙ sym v.invariant

pub returns-in-End : goal.returns-in-End
returns-in-End c =
    let a = c.args in
    let v = c.loop-start in
    best-last a.s.now a.name.now v.best _ (object-last (value_of 7) (cuts-value _) a.s.now v.i
    (name-last a.s.now v.i c.in-End.field-0 (ap Ok (sym c.in-End.is) ∙ c.in_ok-name.ensures)).0)
    ∙ sym v.invariant

pub overflow_add-e : goal.overflow_add-e
overflow_add-e c = omega (arith, (name-of c).within)

pub returns-in_err-i-in-At : goal.returns-in_err-i-in-At
returns-in_err-i-in-At c =
    let a = c.args in
    let v = c.loop-start in
    err-is _ c.from_residual-in_err-i-in-At.ensures.0
    ∙ best-bad a.s.now a.name.now v.best _ (object-stop (value_of 7) (cuts-value _) a.s.now v.i (name-of (goal.at.returns-in_err-i-in-At c).In-At)
    (bad-read a.s.now _ c.in_err-i-in-At.ensures))
    ∙ sym v.invariant

pub loop-start-smaller-then-part_is : goal.loop-start-smaller-then-part_is
loop-start-smaller-then-part_is c =
    let r = read (goal.at.loop-start-smaller-then-part_is c).In_ok-i-in-At in
    omega (arith, r.valued.past, r.named.past, r.named.within)

pub loop-start-preserved-then-part_is : goal.loop-start-preserved-then-part_is
loop-start-preserved-then-part_is c =
    let a = c.args in
    let v = c.loop-start in
    v.invariant
    ∙ find_hit a.s.now a.name.now v.best v.i (read (goal.at.loop-start-preserved-then-part_is c).In_ok-i-in-At) (sym c.part_is.ensures ∙ c.if-part_is.true)

pub loop-start-smaller : goal.loop-start-smaller
loop-start-smaller c =
    let r = read (goal.at.loop-start-smaller c).In_ok-i-in-At in
    omega (arith, r.valued.past, r.named.past, r.named.within)

pub loop-start-preserved : goal.loop-start-preserved
loop-start-preserved c =
    let a = c.args in
    let v = c.loop-start in
    v.invariant
    ∙ find_miss a.s.now a.name.now v.best v.i (read (goal.at.loop-start-preserved c).In_ok-i-in-At) (sym c.part_is.ensures ∙ c.if-part_is.false)
