-- `has_number` meets its contract.
-- Assumes nothing.
use borrow.Author.Rules.{rules}
use Rattle.std.proofs.lemmas.Iterator.{YieldsList-from_slice}
use Rattle.std.proofs.lemmas.Iterator.Search.{any_from_yields_List}
use Rattle.requests.specs.Places.{open_as, has_number}
use Rattle.requests.specs.declared.place.Place.{Place}
use Rattle.requests.proofs.place.has_number.Goals as goal

pub returns : goal.returns
unfolding has_number
returns c =
    any_from_yields_List (λ (p : Place). open_as c.args.number.0 p.request) _ _ _ c.any.ensures.ran (YieldsList-from_slice c.args.places.now (search rules)) (λ x b q k. search rules)
