-- `amf0::properties::text_at` meets its contract: the kind that stands where `find` found the property, or that there is none.
-- Assumes nothing.
use Rattle.std.proofs.Common.{◌≡◌, refl, sym, ap, ◌∙◌}
use Rattle.std.specs.Prelude.{Some, None, Result, Ok, Err}
use Rattle.std.specs.Result.{result_ok}
use Rattle.amf0.specs.Places.{text_told}
use Rattle.amf0.specs.declared.kinds.Kind.{Kind}
use Rattle.amf0.specs.declared.read.Malformed.{Malformed}
use Rattle.amf0.proofs.CutLaws.{clash}
use Rattle.amf0.proofs.FindLaws.{text-found, text-none}
use Rattle.amf0.proofs.properties.text_at.Goals as goal

-- what `ok` leaves
ok-is : {A : Type 0} (r : Result A Malformed) {a : A} → Some a ≡ result_ok r → r ≡ Ok a
ok-is (Ok b) e = cc
ok-is (Err d) e = clash (cc)

no-kind : (r : Result Kind Malformed) → None ≡ result_ok r → None ≡ text_told r
no-kind (Ok k) e = clash (cc)
no-kind (Err d) e = refl

pub returns-in_err-ok : goal.returns-in_err-ok
returns-in_err-ok c =
    let a = c.args in
    c.from_residual.ensures
    ∙ text-none a.s.now a.name.now _ _ c.find.ensures (λ e q. let z = c.in_err-ok.ensures.value ∙ ap result_ok q in clash (cc))

pub returns-in_err-e : goal.returns-in_err-e
returns-in_err-e c =
    let a = c.args in
    let i = ok-is c.find.result c.in_ok-ok.ensures.value in
    let n = c.in_err-e.was in
    c.from_residual-in_err-e.ensures ∙ text-none a.s.now a.name.now _ _ c.find.ensures (λ e q. clash (cc))

pub returns-in_err-kind : goal.returns-in_err-kind
returns-in_err-kind c =
    let a = c.args in
    let i = ok-is c.find.result c.in_ok-ok.ensures.value in
    c.from_residual-in_err-kind.ensures ∙ no-kind _ c.in_err-kind.ensures.value ∙ ap text_told c.kind_at.ensures
    ∙ text-found a.s.now a.name.now a.at _ (ap Ok (sym c.in_ok-e.was) ∙ sym i ∙ c.find.ensures)

pub returns : goal.returns
returns c =
    let a = c.args in
    let i = ok-is c.find.result c.in_ok-ok.ensures.value in
    c.text.ensures ∙ sym (ap text_told (ok-is c.kind_at.result c.in_ok-kind.ensures.value)) ∙ ap text_told c.kind_at.ensures
    ∙ text-found a.s.now a.name.now a.at _ (ap Ok (sym c.in_ok-e.was) ∙ sym i ∙ c.find.ensures)
