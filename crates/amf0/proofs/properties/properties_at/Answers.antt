-- `amf0::properties::properties_at` meets its contract, marker by marker.
-- Assumes nothing.
use Rattle.std.proofs.Common.{◌≡◌, arith, ◌+◌, drop, sym, ap, ◌∙◌, refl, ℕ}
use Rattle.std.specs.Prelude.{Some, Ok}
use Rattle.amf0.specs.Places.{start_after, start_at}
use Rattle.amf0.specs.declared.marker.Marker.{Marker}
use Rattle.amf0.specs.declared.marker.Marker.TheVariants.{Object, EcmaArray}
use Rattle.amf0.proofs.PlaceLaws.{MarkerRead, UintRead, err-is, outcome-none, marker-read, number-read, no-number, place_at}
use Rattle.amf0.proofs.FindLaws.{start-none, start_is, start_other, ecma_short, ecma-is}
use Rattle.amf0.proofs.properties.properties_at.Goals as goal
use Rattle.amf0.proofs.properties.properties_at.Goals.{In_ok-marker, In_ok-ok_or-in-EcmaArray}

-- the marker that was read, and what follows it
marker-of : (c : In_ok-marker) → MarkerRead c.args.s.now c.args.at c.in_ok-marker.marker
marker-of c = marker-read _ _ _ c.in_ok-marker.ensures

start_of : (c : In_ok-marker) (m : Marker) → c.in_ok-marker.marker ≡ m →
    let a = c.args in start_after a.s.now m (drop (a.at + 1) a.s.now) ≡ start_at a.s.now (drop a.at a.s.now)
start_of c m e = rw (← e) (start_is c.args.s.now c.args.at (marker-of c))

-- the count of an ECMA array
count_of : (c : In_ok-ok_or-in-EcmaArray) → UintRead 4 c.args.s.now (c.args.at + 1) c.in_ok-ok_or-in-EcmaArray.field-0
count_of c = number-read 4 _ _ c.in_ok-ok_or-in-EcmaArray.ensures.value c.read_be32.ensures

pub returns-in_err-marker : goal.returns-in_err-marker
returns-in_err-marker c = err-is _ c.from_residual.ensures.0 ∙ start-none c.args.s.now c.args.at (outcome-none _ c.in_err-marker.ensures)

pub overflow_add-b : goal.overflow_add-b
overflow_add-b c = omega (arith, (marker-of c).within)

pub returns-in_err-ok_or-in-EcmaArray : goal.returns-in_err-ok_or-in-EcmaArray
returns-in_err-ok_or-in-EcmaArray c =
    let a = c.args in
    err-is _ c.from_residual-in_err-ok_or-in-EcmaArray.ensures.0
    ∙ ecma_short a.s.now (a.at + 1) (no-number 4 a.s.now (a.at + 1) c.in_err-ok_or-in-EcmaArray.ensures.value c.read_be32.ensures)
    ∙ start_of (goal.at.returns-in_err-ok_or-in-EcmaArray c).In_ok-marker EcmaArray c.in-EcmaArray.is

pub overflow_add-result : goal.overflow_add-result
overflow_add-result c = omega (arith, (count_of c).within)

pub returns-in-Object : goal.returns-in-Object
returns-in-Object c =
    let a = c.args in
    let b = (goal.at.returns-in-Object c).In_ok-marker in
    ap (λ (k : ℕ). Ok (Some k)) (sym (place_at a.s.now (a.at + 1) (omega (arith, (marker-of b).within))))
    ∙ start_of b Object c.in-Object.is

pub returns-in_ok-ok_or-in-EcmaArray : goal.returns-in_ok-ok_or-in-EcmaArray
returns-in_ok-ok_or-in-EcmaArray c =
    let a = c.args in
    let b = (goal.at.returns-in_ok-ok_or-in-EcmaArray c).In_ok-marker in
    ecma-is a.s.now (a.at + 1) (omega (arith, (marker-of b).within)) (count_of c) ∙ start_of b EcmaArray c.in-EcmaArray.is

pub returns-in_default : goal.returns-in_default
returns-in_default c =
    start_other c.args.s.now c.args.at _ c.in_default.not-Object c.in_default.not-EcmaArray ∙ start_of (goal.at.returns-in_default c).In_ok-marker _ refl
