-- `amf0::kinds::text_kind` meets its contract: the place that `text` finds, or that it finds none.
-- Assumes nothing.
use Rattle.std.proofs.Common.{ap, ◌∙◌}
use Rattle.amf0.specs.Places.{text_kind, kind_after}
use Rattle.amf0.proofs.PlaceLaws.{err-is}
use Rattle.amf0.proofs.kinds.text_kind.Goals as goal

pub returns-in_err-text : goal.returns-in_err-text
unfolding kind_after
returns-in_err-text c = err-is _ c.from_residual.ensures.0 ∙ ap text_kind c.in_err-text.ensures

pub returns : goal.returns
unfolding kind_after
returns c = ap text_kind c.in_ok-text.ensures
