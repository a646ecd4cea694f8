-- `octets::output::Writer::put_bytes` meets its contract: the part of the output from the place on becomes the bytes. The loop's invariant: the first `i`
-- of that part are those of the bytes.
-- Assumes nothing.
use Prim.Native.Nat.{◌≤◌}
use mathlib.Core.Path.{refl, sym, ap, ◌∙◌}
use native.Mathlib.Omega.{arith}
use lib.ListN.{length, length-take}
use lib.Seq.{length-sets}
use Rattle.std.proofs.lemmas.List.{take_all}
use Rattle.octets.proofs.OutputLaws.{pasted}
use Rattle.octets.proofs.output.Writer.put_bytes.Goals as goal

pub returns-clause-put : goal.returns-clause-put
returns-clause-put c =
    let a = c.args in
    let i = c.loop-i.i in
    let n : length c.loop-i.to ≤ i = omega (arith, simp length-take at c.loop-i.auto.to) in
    let e = sym (take_all i c.loop-i.to n) ∙ c.loop-i.invariant ∙ take_all i a.src.now c.loop-i-test.false in
    let l = pasted a.self.now.at a.self.now.out.now a.src.now _ e c.requires in
    record { list = l; next_is = refl; same = refl; len = ap length l ∙ length-sets a.self.now.out.now a.self.now.at a.src.now }
