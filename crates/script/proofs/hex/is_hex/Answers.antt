-- `script::hex::is_hex` meets its contract: an odd number of bytes, or each is tested.
-- Assumes nothing.
use Rattle.std.proofs.Common.{rules, ◌≡◌, eqb, length, ◌%◌, true, false, sym, ◌∙◌}
use borrow.Author.Tests.{tests}
use Rattle.std.specs.List.{list_all}
use Rattle.std.proofs.lemmas.Iterator.{YieldsList-from_slice}
use Rattle.std.proofs.lemmas.Iterator.Search.{all_from_yields_List}
use Rattle.script.specs.Hex.{is_digit, is_hex}
use Rattle.script.proofs.hex.is_hex.Goals as goal

pub returns-then-s-eq0 : goal.returns-then-s-eq0
unfolding is_hex is_digit
returns-then-s-eq0 c =
    let e : c.all.result ≡ list_all is_digit c.args.s.now = all_from_yields_List is_digit _ _ c.all.result c.all.ensures.ran (YieldsList-from_slice c.args.s.now cc) (λ x b q k. search (rules, tests)) in
    let t : eqb (length c.args.s.now % 2) 0 ≡ true = search (rules, tests, c.if-s-eq0.true) in
    e ∙ sym (rw t)

pub returns-else-s-eq0 : goal.returns-else-s-eq0
unfolding is_hex
returns-else-s-eq0 c =
    let t : eqb (length c.args.s.now % 2) 0 ≡ false = search (rules, tests, c.if-s-eq0.false) in
    rw t
