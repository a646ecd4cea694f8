-- `amf0::properties::text_property` meets its contract: the part of s at the place that `text_at` finds.
-- Assumes nothing.
use mathlib.Core.Path.{sym, ap, ◌∙◌}
use Rattle.amf0.specs.Places.{stretch}
use Rattle.amf0.proofs.properties.text_property.Goals as goal

pub returns-in-Some : goal.returns-in-Some
unfolding stretch
returns-in-Some c =
    c.part_of.ensures ∙ ap (stretch c.args.s.now)
    (sym c.in-Some.is ∙ c.text_at.ensures)

pub returns-in-None : goal.returns-in-None
unfolding stretch
returns-in-None c =
    ap (stretch c.args.s.now)
    (sym c.in-None.is ∙ c.text_at.ensures)
