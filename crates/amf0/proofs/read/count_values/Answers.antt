-- `amf0::read::count_values` meets its contract. The loop keeps that the values from i on are those that are left to count, and that i is at
-- least n, since each value takes a byte.
-- Assumes nothing.
use Rattle.std.proofs.Common.{arith, drop, sym, ◌∙◌}
use Rattle.amf0.specs.Decode.{top_value}
use Rattle.amf0.proofs.CutLaws.{cuts-value}
use Rattle.amf0.proofs.PlaceLaws.{Read, err-is, at_read, bad-read}
use Rattle.amf0.proofs.ReadLaws.{count-end, count-stop, count-step}
use Rattle.amf0.proofs.read.count_values.Goals as goal
use Rattle.amf0.proofs.read.count_values.Goals.{In_ok-i}

-- a value that was read
item : (c : In_ok-i) → Read c.args.s.now c.loop-i.i 1 c.in_ok-i.i (top_value (drop c.loop-i.i c.args.s.now))
item c = at_read c.args.s.now _ 1 _ _ (omega (arith, c.loop-i-test.true)) (cuts-value _ _) c.in_ok-i.ensures

pub returns-in_err-i : goal.returns-in_err-i
returns-in_err-i c =
    let a = c.args in
    let v = c.loop-i in
    err-is _ c.from_residual.ensures.0 ∙ count-stop a.s.now v.i v.n c.loop-i-test.true (bad-read a.s.now _ c.in_err-i.ensures) ∙ sym v.invariant.1

pub loop-i-smaller : goal.loop-i-smaller
loop-i-smaller c = let r = item (goal.at.loop-i-smaller c).In_ok-i in omega (arith, r.past, c.loop-i-test.true)

pub loop-i-preserved : goal.loop-i-preserved
loop-i-preserved c =
    let a = c.args in
    let v = c.loop-i in
    let r = item (goal.at.loop-i-preserved c).In_ok-i in
    (omega (arith, r.past), v.invariant.1 ∙ count-step a.s.now v.i v.n _ c.loop-i-test.true r)

pub returns : goal.returns
returns c = let v = c.loop-i in count-end c.args.s.now v.i v.n c.loop-i-test.false ∙ sym v.invariant.1
