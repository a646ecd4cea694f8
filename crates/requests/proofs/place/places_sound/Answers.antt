-- `places_sound` meets its contract: where all places are free they are sound.
-- Assumes nothing.
use mathlib.Core.Path.{sym, ◌∙◌}
use Rattle.requests.proofs.PlaceLaws.{free_places}
use Rattle.requests.proofs.place.places_sound.Goals as goal

pub returns-then-all_free : goal.returns-then-all_free
returns-then-all_free c = c.if-all_free.true ∙ sym (free_places _ _ (sym c.all_free.ensures ∙ c.if-all_free.true))
