-- `octets::utf8::is_short_ascii` meets its contract: bytes below 80 are characters by themselves.
-- Assumes nothing.
use borrow.Author.Rules.{rules}
use Rattle.std.proofs.Common.{ltb, sym, ◌∙◌}
use Rattle.std.proofs.lemmas.Iterator.{YieldsList-from_slice}
use Rattle.std.proofs.lemmas.Iterator.Search.{all_from_yields_List}
use Rattle.octets.proofs.CompareLaws.{as_whole}
use Rattle.octets.proofs.Utf8Laws.{utf8-ascii}
use Rattle.octets.proofs.utf8.is_short_ascii.Goals as goal

pub returns-then-s-lt8 : goal.returns-then-s-lt8
returns-then-s-lt8 c =
    let e = all_from_yields_List (λ x. ltb x 0x80) _ _ _ c.all.ensures.ran (YieldsList-from_slice c.args.s.now (search (rules, as_whole))) (λ x b q k. search rules) in
    λ h. utf8-ascii c.args.s.now (sym e ∙ h)
