-- `script::verbs::verb_of` meets its contract: none of the words, or the first that it is.
-- Assumes nothing.
use borrow.Author.Tests.{tests}
use Rattle.std.proofs.Common.{rules, ◌≡◌, Bor, List, ℕ, Option, ap, sym, ◌∙◌}
use Rattle.std.specs.List.{find}
use Rattle.std.specs.Option.{option_map}
use Rattle.std.proofs.lemmas.Iterator.{YieldsList-from_slice}
use Rattle.std.proofs.lemmas.Iterator.Search.{find_from_yields_List}
use Rattle.octets.specs.Compare.{same}
use Rattle.script.specs.Verbs.{verbs}
use Rattle.script.specs.declared.verbs.Verb.{Verb}
use Rattle.script.proofs.TableLaws.{Row, held, row-is}
use Rattle.script.proofs.verbs.verb_of.Goals as goal
use Rattle.script.proofs.verbs.verb_of.Goals.{After-find}

found : (c : After-find) {r : Option (Bor (Row Verb))} → c.find.result ≡ r → find (λ row. same c.args.s.now row.0) verbs ≡ option_map held (option_map (λ y. y.now) r)
found c is =
    let s = c.args.s.now in
    row-is (same s) c.iter.result.rest.now verbs (search rules)
    (find_from_yields_List (λ (row : Row Verb). same s row.0.now) _ _ c.find.result c.find.ensures.ran (YieldsList-from_slice c.iter.result.rest.now (search rules)) (λ x b q k. search (rules, tests)))
    ∙ ap (λ o. option_map held (option_map (λ y. y.now) o)) is

abbrev verb : List ℕ × Verb → Verb
verb row = row.1

pub returns-in_err-verb : goal.returns-in_err-verb
returns-in_err-verb c = c.from_residual.ensures ∙ sym (ap (option_map verb) (found (goal.at.returns-in_err-verb c).After-find c.in_err-verb.was))

pub returns : goal.returns
returns c = sym (ap (option_map verb) (found (goal.at.returns c).After-find c.in_ok-verb.was))
