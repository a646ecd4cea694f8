-- `amf0::properties::find` meets its contract: where the properties start, and then the last of that name.
-- Assumes nothing.
use Rattle.std.proofs.Common.{ap, sym, ◌∙◌}
use Rattle.std.specs.Prelude.{Ok}
use Rattle.amf0.proofs.PlaceLaws.{err-is}
use Rattle.amf0.proofs.FindLaws.{found-from}
use Rattle.amf0.proofs.properties.find.Goals as goal

pub returns-in_err-start : goal.returns-in_err-start
returns-in_err-start c =
    let a = c.args in err-is _ c.from_residual.ensures.0 ∙ found-from a.s.now a.name.now a.at _ c.in_err-start.ensures

pub returns-in-Some : goal.returns-in-Some
returns-in-Some c =
    let a = c.args in
    c.find_in.ensures ∙ found-from a.s.now a.name.now a.at _ (ap Ok (sym c.in-Some.is) ∙ c.in_ok-start.ensures)

pub returns-in-None : goal.returns-in-None
returns-in-None c = let a = c.args in found-from a.s.now a.name.now a.at _ (ap Ok (sym c.in-None.is) ∙ c.in_ok-start.ensures)
