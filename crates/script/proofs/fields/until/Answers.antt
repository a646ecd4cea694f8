-- `script::fields::until` meets its contract: the place that the search answers, or the length.
-- Assumes nothing.
use Rattle.std.proofs.Common.{rules, ◌≡◌, eqb, position, length, ap, ◌∙◌}
use Rattle.std.specs.Option.{unwrap_or}
use borrow.Author.Tests.{tests}
use Rattle.std.proofs.lemmas.Iterator.{YieldsList-from_slice}
use Rattle.std.proofs.lemmas.Iterator.Search.{position_from_yields_List}
use Rattle.script.proofs.FieldLaws.{until-place}
use Rattle.script.proofs.fields.until.Goals as goal

pub returns-clause-value : goal.returns-clause-value
returns-clause-value c =
    let e : c.position.result ≡ position (λ x. eqb x c.args.b) c.args.s.now = position_from_yields_List (λ x. eqb x c.args.b) _ _ c.position.result c.position.ensures.ran (YieldsList-from_slice c.args.s.now cc) (λ x b q k. search (rules, tests)) in
    c.unwrap_or.ensures ∙ ap (λ o. unwrap_or o (length c.args.s.now)) e ∙ until-place c.args.b c.args.s.now
