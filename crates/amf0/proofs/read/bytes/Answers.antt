-- `amf0::read::bytes` meets its contract: too few bytes, or the place after them.
-- Assumes nothing.
use Prim.Native.Nat.{◌+◌}
use native.Mathlib.Omega.{arith}
use Rattle.octets.proofs.BigEndianLaws.{uint-at, uint-short}
use Rattle.amf0.proofs.PlaceLaws.{end-got, end-bad}
use Rattle.amf0.proofs.read.bytes.Goals as goal

pub returns-then-s-at : goal.returns-then-s-at
returns-then-s-at c = let a = c.args in end-bad a.s.now _ (uint-short a.n a.s.now a.at c.if-s-at.true)

pub returns : goal.returns
returns c = let a = c.args in rw (uint-at a.n a.s.now a.at c.if-s-at.false) (end-got a.s.now (a.at + a.n) _ (omega arith))
