-- `all_free` meets its contract.
-- Assumes nothing.
use borrow.Author.Rules.{rules}
use Rattle.std.specs.Option.{is_none}
use Rattle.std.proofs.lemmas.Iterator.{YieldsList-from_slice}
use Rattle.std.proofs.lemmas.Iterator.Search.{all_from_yields_List}
use Rattle.requests.specs.Places.{all_free}
use Rattle.requests.specs.declared.place.Place.{Place}
use Rattle.requests.proofs.place.all_free.Goals as goal

pub returns : goal.returns
unfolding all_free
returns c = all_from_yields_List (λ (p : Place). is_none p.request) _ _ _ c.all.ensures.ran (YieldsList-from_slice c.args.places.now (search rules)) (λ x b q k. search rules)
