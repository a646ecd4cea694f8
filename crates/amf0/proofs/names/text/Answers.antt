-- `amf0::names::text` meets its contract: no length, a length past the end, bytes that are no UTF-8, or the text's place.
-- Assumes nothing.
use Rattle.std.proofs.Common.{◌≡◌, arith, ◌+◌, ◌-◌, ℕ, take, drop, sym, ap, ◌∙◌}
use Rattle.octets.specs.Utf8.{utf8}
use Rattle.octets.specs.Compare.{part}
use Rattle.amf0.proofs.PlaceLaws.{UintRead, err-is, number-read, no-number}
use Rattle.amf0.proofs.TextLaws.{text-bad, text-none, text-short, text-wrong, text-good}
use Rattle.amf0.proofs.names.text.Goals as goal
use Rattle.amf0.proofs.names.text.Goals.{After-is_utf8, In_ok-n}

-- the length that was read
length-of : (c : In_ok-n) → UintRead 2 c.args.s.now c.args.at c.in_ok-n.n
length-of c = number-read 2 _ _ c.in_ok-n.ensures.value c.read_be16.ensures

-- and the test of the bytes after it
tested : (c : After-is_utf8) → utf8 (part c.args.s.now (c.args.at + 2) c.in_ok-n.n) ≡ c.is_utf8.result
tested c =
    let a = c.args in
    let n = c.in_ok-n.n in
    let z : n ≡ a.at + 2 + n - (a.at + 2) = omega arith in
    ap (λ (k : ℕ). utf8 (take k (drop (a.at + 2) a.s.now))) z ∙ sym c.is_utf8.ensures

pub returns-in_err-n : goal.returns-in_err-n
returns-in_err-n c =
    let a = c.args in
    err-is _ c.from_residual.ensures.0
    ∙ text-bad a.s.now a.at (text-none a.s.now a.at (no-number 2 a.s.now a.at c.in_err-n.ensures.value c.read_be16.ensures))

pub overflow_add-start : goal.overflow_add-start
overflow_add-start c = omega (arith, (length-of c).within)

pub overflow_sub-s : goal.overflow_sub-s
overflow_sub-s c = omega (arith, (length-of c).within)

pub returns-then-s-start : goal.returns-then-s-start
returns-then-s-start c =
    let a = c.args in
    text-bad a.s.now a.at (text-short a.s.now a.at _ (length-of (goal.at.returns-then-s-start c).In_ok-n) (omega (arith, c.if-s-start.true)))

pub overflow_add-start-2 : goal.overflow_add-start-2
overflow_add-start-2 c = omega (arith, (length-of (goal.at.overflow_add-start-2 c).In_ok-n).within)

pub slice_bounds-is_utf8-end : goal.slice_bounds-is_utf8-end
slice_bounds-is_utf8-end c = omega (arith, (length-of (goal.at.slice_bounds-is_utf8-end c).In_ok-n).within)

pub returns-then-is_utf8 : goal.returns-then-is_utf8
returns-then-is_utf8 c =
    let a = c.args in
    text-good a.s.now a.at _ (length-of (goal.at.returns-then-is_utf8 c).In_ok-n) (omega (arith, c.if-s-start.false))
    (tested (goal.at.returns-then-is_utf8 c).After-is_utf8 ∙ c.if-is_utf8.true)

pub returns : goal.returns
returns c =
    let a = c.args in
    text-bad a.s.now a.at
    (text-wrong a.s.now a.at _ (length-of (goal.at.returns c).In_ok-n) (omega (arith, c.if-s-start.false))
    (tested (goal.at.returns c).After-is_utf8 ∙ c.if-is_utf8.false))
