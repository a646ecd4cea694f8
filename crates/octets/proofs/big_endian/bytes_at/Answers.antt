-- `octets::big_endian::bytes_at` meets its contract: nothing from the end on, or what the library's `first_chunk` finds.
-- Assumes nothing.
use native.Mathlib.Omega.{arith}
use Prim.Native.Nat.{◌<◌, ◌-◌}
use mathlib.Core.Logic.{inl, inr}
use mathlib.Core.Path.{◌≡◌, ◌∙◌}
use lib.ListN.{length, drop, length-drop}
use lib.Seq.{take_all}
use Rattle.octets.proofs.BigEndianLaws.{first_field}
use Rattle.octets.proofs.ParseLaws.{field-short}
use Rattle.octets.proofs.big_endian.bytes_at.Goals as goal

pub returns-in_err-get : goal.returns-in_err-get
returns-in_err-get g c =
    let s = c.args.s.now in
    let h : length s - c.args.at < g.row.N = elim c.in_err-get.ensures.lookup.0 [ inl p ↦ omega arith | inr p ↦ omega arith ] in
    rw (c.from_residual.ensures, field-short g.row.N s c.args.at h)

pub returns : goal.returns
returns g c =
    let s = c.args.s.now in
    let r : c.in_ok-get.field-0.now ≡ drop c.args.at s = c.in_ok-get.ensures.lookup.0.2 ∙ take_all _ _ (omega (arith, length-drop c.args.at s)) in
    rw c.copied.ensures (rw r at (first_field g.row.N _ c.first_chunk.result c.first_chunk.ensures.cases))
