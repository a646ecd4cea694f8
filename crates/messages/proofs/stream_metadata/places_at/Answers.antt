-- `messages::stream_metadata::places_at` meets its contract: where the properties start, and then the places of the fields.
-- Assumes nothing.
use Rattle.std.proofs.Common.{sym, ap, ◌∙◌}
use Rattle.std.specs.Prelude.{Some, None, Ok, Err}
use Rattle.amf0.proofs.PlaceLaws.{err-is}
use Rattle.messages.proofs.PlacesLaws.{places-from}
use Rattle.messages.proofs.stream_metadata.places_at.Goals as goal

pub returns-in_err-start : goal.returns-in_err-start
returns-in_err-start c = let a = c.args in err-is _ c.from_residual.ensures.0 ∙ places-from a.body.now a.at (Err _) c.in_err-start.ensures

pub returns-in-Some : goal.returns-in-Some
returns-in-Some c =
    let a = c.args in c.places_in.ensures ∙ places-from a.body.now a.at (Ok (Some _)) (ap Ok (sym c.in-Some.is) ∙ c.in_ok-start.ensures)

pub returns-in-None : goal.returns-in-None
returns-in-None c = let a = c.args in places-from a.body.now a.at (Ok None) (ap Ok (sym c.in-None.is) ∙ c.in_ok-start.ensures)
