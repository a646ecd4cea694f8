-- `amf0::names::name` meets its contract: no text, a name, or an empty name with the end marker after it or without.
-- Assumes nothing.
use Rattle.std.proofs.Common.{arith, ◌∙◌}
use Rattle.amf0.proofs.PlaceLaws.{UintRead, err-is, outcome-none, uint-read}
use Rattle.amf0.proofs.TextLaws.{TextPlace, text-place, no_text, name-bad, no-text-name, name-good, end_short, end-wrong, end-good}
use Rattle.amf0.proofs.names.name.Goals as goal
use Rattle.amf0.proofs.names.name.Goals.{In_ok-place, In_ok-byte}

pub returns-in_err-place : goal.returns-in_err-place
returns-in_err-place c =
    let a = c.args in
    err-is _ c.from_residual.ensures.0 ∙ name-bad a.s.now a.at (no-text-name a.s.now a.at (no_text a.s.now _ c.in_err-place.ensures))

-- the text that was read, and the byte after an empty one
text-of : (c : In_ok-place) → TextPlace c.args.s.now c.args.at c.in_ok-place.place.start c.in_ok-place.place.len
text-of c = text-place _ _ _ c.in_ok-place.ensures

mark-of : (c : In_ok-byte) → UintRead 1 c.args.s.now c.in_ok-place.place.start c.in_ok-byte.field-0
mark-of c = uint-read 1 _ _ _ c.in_ok-byte.ensures

pub returns-then-place-gt0 : goal.returns-then-place-gt0
returns-then-place-gt0 c = name-good c.args.s.now c.args.at _ (text-of (goal.at.returns-then-place-gt0 c).In_ok-place) c.if-place-gt0.true

pub returns-in_err-byte : goal.returns-in_err-byte
returns-in_err-byte c =
    let a = c.args in
    err-is _ c.from_residual-in_err-byte.ensures.0
    ∙ name-bad a.s.now a.at (end_short a.s.now a.at _ (text-of (goal.at.returns-in_err-byte c).In_ok-place) c.if-place-gt0.false
    (outcome-none _ c.in_err-byte.ensures))

pub overflow_add-result : goal.overflow_add-result
overflow_add-result c = omega (arith, (mark-of (goal.at.overflow_add-result c).In_ok-byte).within)

pub returns-then-branch-eq9 : goal.returns-then-branch-eq9
returns-then-branch-eq9 c =
    let a = c.args in
    end-good a.s.now a.at _ (text-of (goal.at.returns-then-branch-eq9 c).In_ok-place) c.if-place-gt0.false _
    (mark-of (goal.at.returns-then-branch-eq9 c).In_ok-byte) c.if-branch-eq9.true

pub returns : goal.returns
returns c =
    let a = c.args in
    name-bad a.s.now a.at
    (end-wrong a.s.now a.at _ (text-of (goal.at.returns c).In_ok-place) c.if-place-gt0.false _ (mark-of (goal.at.returns c).In_ok-byte) c.if-branch-eq9.false)
