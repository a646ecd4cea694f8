-- `Requests::take` meets its contract: refusal 11 first, then 10, then the number and the place. Fewer than eight are open exactly if a place is free.
-- Assumes nothing.
use Prim.Native.Nat.{◌≤◌, ◌<◌}
use mathlib.Core.Path.{◌≡◌}
use native.Mathlib.Omega.{arith}
use borrow.Author.Rules.{rules}
use borrow.Author.Tests.{le-leb, lt-leb}
use lib.ListN.{length}
use Rattle.requests.specs.Places.{open_count, put}
use Rattle.requests.specs.Table.{take_of, asked}
use Rattle.requests.proofs.PlaceLaws.{below_free, free-full}
use Rattle.requests.proofs.table.Requests.take.Goals as goal

pub returns-then-self-ge4294967296 : goal.returns-then-self-ge4294967296
unfolding take_of
returns-then-self-ge4294967296 c = rw (le-leb 4294967296 c.args.self.now.next (omega arith))

pub returns-in_default : goal.returns-in_default
unfolding take_of
returns-in_default c =
    let r = c.args.self.now in
    let ps = r.places in
    let n : length ps ≡ 8 = search rules in
    let h : 8 ≤ open_count ps = omega (arith, free-full ps c.in_default.ensures) in
    rw (lt-leb 4294967296 r.next (omega arith), le-leb 8 (open_count ps) h)

pub returns : goal.returns
unfolding take_of asked put
returns c =
    let r = c.args.self.now in
    let ps = r.places in
    let n : length ps ≡ 8 = search rules in
    let h : open_count ps < 8 = omega (arith, below_free ps (omega (arith, c.in-Some.ensures.0, c.in-Some.ensures.1))) in
    rw (lt-leb 4294967296 r.next (omega arith), lt-leb 8 (open_count ps) h, ← c.in-Some.ensures.0, ← c.new.ensures)
