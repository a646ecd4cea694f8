-- `script_results::hex::put_hex` meets its contract: two digits for each byte in turn.
-- Assumes nothing.
use native.Mathlib.Omega.{arith}
use lib.ListN.{take}
use lib.Seq.{length-take-le}
use Rattle.octets.proofs.OutputLaws.{no-put, then, cons}
use Rattle.script_results.specs.Hex.{hex_text}
use Rattle.script_results.proofs.HexLaws.{text-step, text-length}
use Rattle.script_results.proofs.hex.put_hex.Goals as goal

pub loop-b-init : goal.loop-b-init
unfolding hex_text
loop-b-init c = no-put

pub put_u8-requires : goal.put_u8-requires
put_u8-requires c =
    let s = c.args.s.now in
    let i = c.loop-b.b-index in
    omega (arith, text-length (take i s), length-take-le i s (omega arith))

pub put_u8-requires-in-loop-b : goal.put_u8-requires-in-loop-b
put_u8-requires-in-loop-b c =
    let s = c.args.s.now in
    let i = c.loop-b.b-index in
    omega (arith, text-length (take i s), length-take-le i s (omega arith))

pub loop-b-preserved : goal.loop-b-preserved
loop-b-preserved c =
    let p = rw c.glyph.ensures at c.put_u8.ensures.put in
    let q = rw c.glyph-in-loop-b.ensures at c.put_u8-in-loop-b.ensures.put in
    rw (text-step c.args.s.now c.loop-b.b-index (omega arith)) (then c.loop-b.invariant (cons p q))
