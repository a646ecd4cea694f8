-- `is_short` meets its contract: sixteen bytes below 80 are sound, however few of them the text has.
-- Assumes nothing.
use borrow.Author.Rules.{rules}
use Rattle.std.proofs.Common.{ltb, take, sym, ◌∙◌, arith}
use Rattle.std.proofs.lemmas.Iterator.{YieldsList-from_slice}
use Rattle.std.proofs.lemmas.Iterator.Search.{all_from_yields_List}
use Rattle.session.proofs.PlainLaws.{all-ascii, short-sound}
use Rattle.session.proofs.config.is_short.Goals as goal

pub returns-then-text-le16 : goal.returns-then-text-le16
returns-then-text-le16 c =
    let b = take 16 c.args.text.now.bytes in
    let e = all_from_yields_List (λ x. ltb x 0x80) _ _ _ c.all.ensures.ran (YieldsList-from_slice b (search rules)) (λ x b q k. search rules) in
    λ h. short-sound c.args.text.now (omega arith) (all-ascii b (sym e ∙ h))
