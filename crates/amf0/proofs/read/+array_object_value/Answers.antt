-- `amf0::read::value`, `object` and `array` meet their contracts. They call each other: a value of `left` levels calls an object or an array with
-- one level less, and each of those a value with as many.
-- Assumes nothing.
use Rattle.std.proofs.Common.{◌≡◌, ℕ, ◌+◌, ◌-◌, ◌<◌, ◌≤◌, arith, length, drop, sym, ap, ◌∙◌, inl, inr}
use Rattle.std.specs.Prelude.{Ok}
use Rattle.amf0.specs.Value.{null, undefined}
use Rattle.amf0.specs.Decode.{content, value as value_of}
use Rattle.amf0.specs.Places.{end_of}
use Rattle.amf0.specs.declared.marker.Marker.{Marker}
use Rattle.amf0.specs.declared.marker.Marker.TheVariants.{Number, Boolean, Text, Object, Null, Undefined, EcmaArray, StrictArray}
use Rattle.amf0.proofs.CutLaws.{cuts-value}
use Rattle.amf0.proofs.PlaceLaws as places
use Rattle.amf0.proofs.TextLaws as texts
use Rattle.amf0.proofs.ReadLaws as laws
use Rattle.amf0.proofs.read.+array_object_value.Goals as goal
use Rattle.amf0.proofs.read.+array_object_value.Goals.{array-In_ok-i, object-In-At, object-In_ok-i-in-At, value-In_ok-marker, value-In_ok-ok_or-in-EcmaArray, value-In_ok-n-in-StrictArray}

-- a value of the array that was read
array_item : (t : ℕ) (c : array-In_ok-i t) → places.Read c.args.s.now c.loop.i 1 c.in_ok-i.i (value_of c.args.left (drop c.loop.i c.args.s.now))
array_item t c = places.at_read c.args.s.now _ 1 _ _ c.loop.invariant.0 (cuts-value _ _) c.in_ok-i.ensures

pub array-returns-in_err-i : goal.array-returns-in_err-i
array-returns-in_err-i t c =
    places.err-end c.args.s.now _ c.from_residual.ensures.0
    (laws.values-stop (value_of c.args.left) c.args.s.now c.loop.i (c.args.n - c.loop.counter) (omega (arith, c.loop-test.true))
    (places.bad-read c.args.s.now _ c.in_err-i.ensures))
    ∙ sym c.loop.invariant.1

pub array-loop-preserved : goal.array-loop-preserved
array-loop-preserved t c =
    let item = array_item t (goal.at.array-loop-preserved t c).In_ok-i in
    let m : c.args.n - c.loop.counter - 1 ≡ c.args.n - (c.loop.counter + 1) = omega arith in
    let l : 0 < c.args.n - c.loop.counter = omega (arith, c.loop-test.true) in
    (item.within, c.loop.invariant.1 ∙ rw (← m) (laws.values-step (value_of c.args.left) c.args.s.now c.loop.i (c.args.n - c.loop.counter) _ l item))

pub array-returns : goal.array-returns
array-returns t c =
    laws.values-none (value_of c.args.left) c.args.s.now c.loop.i (c.args.n - c.loop.counter) (omega (arith, c.loop-test.false)) c.loop.invariant.0
    ∙ sym c.loop.invariant.1

-- a name that was read, and the value after it
object_name : (t : ℕ) (c : object-In-At t) → texts.NamePlace c.args.s.now c.loop-e.i c.in-At.field-0.start c.in-At.field-0.len
object_name t c = texts.name-place _ _ c.in-At.field-0 (ap Ok (sym c.in-At.is) ∙ c.in_ok-e.ensures)

object_value : (t : ℕ) (c : object-In_ok-i-in-At t) →
    let n = c.in-At.field-0.start + c.in-At.field-0.len in
    places.Read c.args.s.now n 1 c.in_ok-i-in-At.i (value_of c.args.left (drop n c.args.s.now))
object_value t c =
    places.at_read _ _ 1 _ _ (object_name t (goal.at.object-In_ok-i-in-At t c).In-At).within (cuts-value _ _) c.in_ok-i-in-At.ensures

pub object-returns-in_err-e : goal.object-returns-in_err-e
object-returns-in_err-e t c =
    places.err-end c.args.s.now _ c.from_residual.ensures.0
    (laws.object-bad (value_of c.args.left) (cuts-value _) c.args.s.now c.loop-e.i
    (texts.no_name c.args.s.now _ c.in_err-e.ensures))
    ∙ sym c.loop-e.invariant

pub object-returns-in-End : goal.object-returns-in-End
object-returns-in-End t c =
    let n = texts.name-last c.args.s.now c.loop-e.i c.in-End.e (ap Ok (sym c.in-End.is) ∙ c.in_ok-e.ensures) in
    places.end-got c.args.s.now _ _ n.1
    ∙ sym (c.loop-e.invariant ∙ ap (end_of c.args.s.now) (laws.object-last (value_of c.args.left) (cuts-value _) c.args.s.now c.loop-e.i n.0))

pub object-overflow_add-start : goal.object-overflow_add-start
object-overflow_add-start t c = omega (arith, (object_name t c).within)

pub object-returns-in_err-i-in-At : goal.object-returns-in_err-i-in-At
object-returns-in_err-i-in-At t c =
    places.err-end c.args.s.now _ c.from_residual-in_err-i-in-At.ensures.0
    (laws.object-stop (value_of c.args.left) (cuts-value _) c.args.s.now _ (object_name t (goal.at.object-returns-in_err-i-in-At t c).In-At)
    (places.bad-read c.args.s.now _ c.in_err-i-in-At.ensures))
    ∙ sym c.loop-e.invariant

pub object-loop-e-smaller : goal.object-loop-e-smaller
object-loop-e-smaller t c =
    let n = object_name t (goal.at.object-loop-e-smaller t c).In-At in
    omega (arith, (object_value t c).past, n.past, n.within)

pub object-loop-e-preserved : goal.object-loop-e-preserved
object-loop-e-preserved t c =
    c.loop-e.invariant
    ∙ ap (end_of c.args.s.now) (laws.object-step (value_of c.args.left) (cuts-value _) c.args.s.now _
    (object_name t (goal.at.object-loop-e-preserved t c).In-At) (object_value t c))
    ∙ sym (places.forget c.args.s.now _ _)

-- the marker that was read, and what follows the marker m
value_marker : (t : ℕ) (c : value-In_ok-marker t) → places.MarkerRead c.args.s.now c.args.at c.in_ok-marker.marker
value_marker t c = places.marker-read _ _ _ c.in_ok-marker.ensures

value_content : (t : ℕ) (c : value-In_ok-marker t) (m : Marker) → c.in_ok-marker.marker ≡ m →
    end_of c.args.s.now (content (value_of (c.args.left - 1)) m (drop (c.args.at + 1) c.args.s.now))
    ≡ end_of c.args.s.now (value_of c.args.left (drop c.args.at c.args.s.now))
value_content t c m q =
    rw (← q) (sym (ap (end_of c.args.s.now) (laws.value-is c.args.s.now c.args.at c.args.left c.if-left-eq0.false (value_marker t c))))

-- the count of an ECMA array and of a strict array
value_ecma : (t : ℕ) (c : value-In_ok-ok_or-in-EcmaArray t) → places.UintRead 4 c.args.s.now (c.args.at + 1) c.in_ok-ok_or-in-EcmaArray.field-0
value_ecma t c = places.number-read 4 _ _ c.in_ok-ok_or-in-EcmaArray.ensures.value c.read_be32.ensures

value_strict : (t : ℕ) (c : value-In_ok-n-in-StrictArray t) → places.UintRead 4 c.args.s.now (c.args.at + 1) c.in_ok-n-in-StrictArray.n
value_strict t c = places.number-read 4 _ _ c.in_ok-n-in-StrictArray.ensures.value c.read_be32-in-StrictArray.ensures

pub value-returns-then-left-eq0 : goal.value-returns-then-left-eq0
value-returns-then-left-eq0 t c = places.end-bad c.args.s.now _ (laws.value_none c.args.s.now c.args.at c.args.left c.if-left-eq0.true)

pub value-returns-in_err-marker : goal.value-returns-in_err-marker
value-returns-in_err-marker t c =
    places.err-end c.args.s.now _ c.from_residual.ensures.0
    (laws.value_bad c.args.s.now c.args.at c.args.left (places.outcome-none _ c.in_err-marker.ensures))

pub value-overflow_add-b : goal.value-overflow_add-b
value-overflow_add-b t c = omega (arith, (value_marker t c).within)

pub value-bytes-requires : goal.value-bytes-requires
value-bytes-requires t c = omega (arith, (value_marker t (goal.at.value-bytes-requires t c).In_ok-marker).within)

pub value-bytes-requires-in-Boolean : goal.value-bytes-requires-in-Boolean
value-bytes-requires-in-Boolean t c = omega (arith, (value_marker t (goal.at.value-bytes-requires-in-Boolean t c).In_ok-marker).within)

pub value-returns-in_err-ok_or-in-EcmaArray : goal.value-returns-in_err-ok_or-in-EcmaArray
value-returns-in_err-ok_or-in-EcmaArray t c =
    places.err-end _ _ c.from_residual-in_err-ok_or-in-EcmaArray.ensures.0
    (laws.ecma_short _ c.args.s.now (c.args.at + 1)
    (places.no-number 4 c.args.s.now (c.args.at + 1) c.in_err-ok_or-in-EcmaArray.ensures.value c.read_be32.ensures))
    ∙ value_content t (goal.at.value-returns-in_err-ok_or-in-EcmaArray t c).In_ok-marker EcmaArray c.in-EcmaArray.is

pub value-overflow_add-b-in-EcmaArray : goal.value-overflow_add-b-in-EcmaArray
value-overflow_add-b-in-EcmaArray t c = omega (arith, (value_ecma t c).within)

pub value-returns-in_err-n-in-StrictArray : goal.value-returns-in_err-n-in-StrictArray
value-returns-in_err-n-in-StrictArray t c =
    places.err-end _ _ c.from_residual-in_err-n-in-StrictArray.ensures.0
    (laws.strict-short _ c.args.s.now (c.args.at + 1)
    (places.no-number 4 c.args.s.now (c.args.at + 1) c.in_err-n-in-StrictArray.ensures.value c.read_be32-in-StrictArray.ensures))
    ∙ value_content t (goal.at.value-returns-in_err-n-in-StrictArray t c).In_ok-marker StrictArray c.in-StrictArray.is

pub value-overflow_add-b-in-StrictArray : goal.value-overflow_add-b-in-StrictArray
value-overflow_add-b-in-StrictArray t c = omega (arith, (value_strict t c).within)

pub value-array-requires : goal.value-array-requires
value-array-requires t c = omega (arith, (value_strict t (goal.at.value-array-requires t c).In_ok-n-in-StrictArray).within)

pub value-returns-in-Number : goal.value-returns-in-Number
unfolding content
value-returns-in-Number t c =
    c.bytes.ensures ∙ places.forget _ _ _ ∙ value_content t (goal.at.value-returns-in-Number t c).In_ok-marker Number c.in-Number.is

pub value-returns-in-Boolean : goal.value-returns-in-Boolean
unfolding content
value-returns-in-Boolean t c =
    c.bytes-in-Boolean.ensures ∙ places.forget _ _ _ ∙ value_content t (goal.at.value-returns-in-Boolean t c).In_ok-marker Boolean c.in-Boolean.is

pub value-returns-in-Text : goal.value-returns-in-Text
unfolding content
value-returns-in-Text t c =
    c.text_end.ensures ∙ places.forget _ _ _ ∙ value_content t (goal.at.value-returns-in-Text t c).In_ok-marker Text c.in-Text.is

pub value-returns-in-Object : goal.value-returns-in-Object
unfolding content
value-returns-in-Object t c =
    c.object.ensures ∙ places.forget _ _ _ ∙ value_content t (goal.at.value-returns-in-Object t c).In_ok-marker Object c.in-Object.is

pub value-returns-in-Null : goal.value-returns-in-Null
unfolding content
value-returns-in-Null t c =
    let b = (goal.at.value-returns-in-Null t c).In_ok-marker in
    let h : c.args.at + 1 ≤ length c.args.s.now = omega (arith, (value_marker t b).within) in
    elim c.in-Null.is [
      | inl e ↦ places.end-got _ _ null h ∙ value_content t b Null e
      | inr e ↦ places.end-got _ _ undefined h ∙ value_content t b Undefined e
    ]

pub value-returns-in_ok-ok_or-in-EcmaArray : goal.value-returns-in_ok-ok_or-in-EcmaArray
value-returns-in_ok-ok_or-in-EcmaArray t c =
    c.object-in-EcmaArray.ensures ∙ laws.ecma-is _ _ _ (value_ecma t (goal.at.value-returns-in_ok-ok_or-in-EcmaArray t c).In_ok-ok_or-in-EcmaArray)
    ∙ value_content t (goal.at.value-returns-in_ok-ok_or-in-EcmaArray t c).In_ok-marker EcmaArray c.in-EcmaArray.is

pub value-returns-in_ok-n-in-StrictArray : goal.value-returns-in_ok-n-in-StrictArray
value-returns-in_ok-n-in-StrictArray t c =
    c.array.ensures ∙ laws.strict-is _ _ _ (value_strict t (goal.at.value-returns-in_ok-n-in-StrictArray t c).In_ok-n-in-StrictArray)
    ∙ value_content t (goal.at.value-returns-in_ok-n-in-StrictArray t c).In_ok-marker StrictArray c.in-StrictArray.is
