-- `script::verbs::publish_type` meets its contract: none of the words, or the first that it is.
-- Assumes nothing.
use borrow.Author.Tests.{tests}
use Rattle.std.proofs.Common.{rules, ◌≡◌, Bor, List, ℕ, Option, ap, sym, ◌∙◌}
use Rattle.std.specs.List.{find}
use Rattle.std.specs.Option.{option_map}
use Rattle.std.proofs.lemmas.Iterator.{YieldsList-from_slice}
use Rattle.std.proofs.lemmas.Iterator.Search.{find_from_yields_List}
use Rattle.octets.specs.Compare.{same}
use Rattle.script.specs.Verbs.{types}
use Rattle.messages.specs.declared.publish_request_type.PublishRequestType.{PublishRequestType}
use Rattle.script.proofs.TableLaws.{Row, held, row-is}
use Rattle.script.proofs.verbs.publish_type.Goals as goal
use Rattle.script.proofs.verbs.publish_type.Goals.{After-find}

found : (c : After-find) {r : Option (Bor (Row PublishRequestType))} → c.find.result ≡ r → find (λ row. same c.args.s.now row.0) types ≡ option_map held (option_map (λ y. y.now) r)
found c is =
    let s = c.args.s.now in
    row-is (same s) c.iter.result.rest.now types (search rules)
    (find_from_yields_List (λ (row : Row PublishRequestType). same s row.0.now) _ _ c.find.result c.find.ensures.ran (YieldsList-from_slice c.iter.result.rest.now (search rules)) (λ x b q k. search (rules, tests)))
    ∙ ap (λ o. option_map held (option_map (λ y. y.now) o)) is

abbrev kind : List ℕ × PublishRequestType → PublishRequestType
kind row = row.1

pub returns-in_err-kind : goal.returns-in_err-kind
returns-in_err-kind c = c.from_residual.ensures ∙ sym (ap (option_map kind) (found (goal.at.returns-in_err-kind c).After-find c.in_err-kind.was))

pub returns : goal.returns
returns c = sym (ap (option_map kind) (found (goal.at.returns c).After-find c.in_ok-kind.was))
