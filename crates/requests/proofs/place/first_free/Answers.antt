-- `first_free` meets its contract.
-- Assumes nothing.
use borrow.Author.Rules.{rules}
use Rattle.std.specs.Option.{is_none}
use Rattle.std.proofs.lemmas.Iterator.{YieldsList-from_slice}
use Rattle.std.proofs.lemmas.Iterator.Search.{position_from_yields_List}
use Rattle.requests.specs.Places.{first_free, free_place_is}
use Rattle.requests.specs.declared.place.Place.{Place}
use Rattle.requests.proofs.SearchLaws.{first-of}
use Rattle.requests.proofs.place.first_free.Goals as goal

pub returns : goal.returns
unfolding first_free
returns c =
    let ps = c.args.places.now in
    rw (free_place_is ps) (first-of _ _ c.position.result
    (position_from_yields_List (λ (p : Place). is_none p.request) _ _ _ c.position.ensures.ran (YieldsList-from_slice ps (search rules)) (λ x b q k. search rules)))
