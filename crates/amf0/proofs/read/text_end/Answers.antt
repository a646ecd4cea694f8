-- `amf0::read::text_end` meets its contract: the place after the text that `text` finds.
-- Assumes nothing.
use Rattle.std.proofs.Common.{arith}
use Rattle.amf0.proofs.PlaceLaws.{err-end, end-got}
use Rattle.amf0.proofs.TextLaws.{TextPlace, text-place, no_text}
use Rattle.amf0.proofs.read.text_end.Goals as goal
use Rattle.amf0.proofs.read.text_end.Goals.{In_ok-place}

text-of : (c : In_ok-place) → TextPlace c.args.s.now c.args.at c.in_ok-place.place.start c.in_ok-place.place.len
text-of c = text-place _ _ _ c.in_ok-place.ensures

pub returns-in_err-place : goal.returns-in_err-place
returns-in_err-place c = err-end c.args.s.now _ c.from_residual.ensures.0 (no_text c.args.s.now _ c.in_err-place.ensures)

pub overflow_add-result : goal.overflow_add-result
overflow_add-result c = omega (arith, (text-of (goal.at.overflow_add-result c).In_ok-place).within)

pub returns : goal.returns
returns c = let h = text-of (goal.at.returns c).In_ok-place in rw h.is (end-got _ _ _ h.within)
