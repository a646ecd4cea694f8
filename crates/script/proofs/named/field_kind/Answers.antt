-- `script::named::field_kind` meets its contract: no name, or the first with which the field begins.
-- Assumes nothing.
use borrow.Author.Tests.{tests}
use Rattle.std.proofs.Common.{rules, ◌≡◌, length, take, drop, Bor, List, ℕ, eqb, Option, ap, sym, ◌∙◌}
use Rattle.std.specs.List.{find}
use Rattle.std.specs.Option.{option_map}
use Rattle.std.proofs.lemmas.Iterator.{YieldsList-from_slice}
use Rattle.std.proofs.lemmas.Iterator.Search.{find_from_yields_List}
use lib.Pointwise.{pointwise}
use Rattle.script.specs.Metadata.{begins, kinds}
use Rattle.script.specs.declared.named.FieldKind.{FieldKind}
use Rattle.script.proofs.MetadataLaws.{begins_is, to_end}
use Rattle.script.proofs.TableLaws.{Row, held, row-is}
use Rattle.script.proofs.named.field_kind.Goals as goal
use Rattle.script.proofs.named.field_kind.Goals.{After-find}

found : (c : After-find) {r : Option (Bor (Row FieldKind))} → c.find.result ≡ r → find (λ row. begins row.0 c.args.s.now) kinds ≡ option_map held (option_map (λ y. y.now) r)
found c is =
    let s = c.args.s.now in
    row-is (λ name. begins name s) c.iter.result.rest.now kinds (search rules)
    (find_from_yields_List (λ (row : Row FieldKind). begins row.0.now s) _ _ c.find.result c.find.ensures.ran (YieldsList-from_slice c.iter.result.rest.now (search rules))
    (λ x b q k. let h : (q ≡ _) × (b ≡ pointwise eqb (take (length x.now.0.now) s) x.now.0.now) = search (rules, tests) in (h.0, sym (begins_is x.now.0.now s (sym h.1)))))
    ∙ ap (λ o. option_map held (option_map (λ y. y.now) o)) is

-- what stands in a row, of the field s
abbrev told : List ℕ → List ℕ × FieldKind → FieldKind × List ℕ
told s row = (row.1, drop (length row.0) s)

pub returns-in_err-name : goal.returns-in_err-name
returns-in_err-name c =
    rw c.from_residual.ensures (ap (option_map (told c.args.s.now)) (found (goal.at.returns-in_err-name c).After-find c.in_err-name.was))

pub returns : goal.returns
returns c =
    ap (option_map (told c.args.s.now)) (found (goal.at.returns c).After-find c.in_ok-name.was) ∙ rw (to_end c.args.s.now (length c.in_ok-name.field-0.now.0.now))
