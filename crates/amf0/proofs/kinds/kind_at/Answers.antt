-- `amf0::kinds::kind_at` meets its contract, marker by marker.
-- Assumes nothing.
use Rattle.std.proofs.Common.{◌≡◌, arith, ◌+◌, drop, ◌∙◌, inl, inr}
use Rattle.amf0.specs.Places.{kind_after, kind_at}
use Rattle.amf0.specs.declared.marker.Marker.{Marker}
use Rattle.amf0.specs.declared.marker.Marker.TheVariants.{Number, Boolean, Text, Object, Null, Undefined, EcmaArray, StrictArray}
use Rattle.amf0.proofs.PlaceLaws.{err-is, outcome-none, MarkerRead, marker-read}
use Rattle.amf0.proofs.KindLaws.{kind-is, kind-none}
use Rattle.amf0.proofs.kinds.kind_at.Goals as goal
use Rattle.amf0.proofs.kinds.kind_at.Goals.{In_ok-marker}

-- the marker that was read, and what follows it
marker-of : (c : In_ok-marker) → MarkerRead c.args.s.now c.args.at c.in_ok-marker.marker
marker-of c = marker-read _ _ _ c.in_ok-marker.ensures

told : (c : In_ok-marker) (m : Marker) → c.in_ok-marker.marker ≡ m →
    let a = c.args in kind_after a.s.now m (drop (a.at + 1) a.s.now) ≡ kind_at a.s.now (drop a.at a.s.now)
told c m e = rw (← e) (kind-is c.args.s.now c.args.at (marker-of c))

pub returns-in_err-marker : goal.returns-in_err-marker
returns-in_err-marker c = err-is _ c.from_residual.ensures.0 ∙ kind-none c.args.s.now c.args.at (outcome-none _ c.in_err-marker.ensures)

pub overflow_add-b : goal.overflow_add-b
overflow_add-b c = omega (arith, (marker-of c).within)

pub returns-in-Number : goal.returns-in-Number
returns-in-Number c = c.number.ensures ∙ told (goal.at.returns-in-Number c).In_ok-marker Number c.in-Number.is

pub returns-in-Boolean : goal.returns-in-Boolean
returns-in-Boolean c = c.boolean.ensures ∙ told (goal.at.returns-in-Boolean c).In_ok-marker Boolean c.in-Boolean.is

pub returns-in-Text : goal.returns-in-Text
returns-in-Text c = c.text_kind.ensures ∙ told (goal.at.returns-in-Text c).In_ok-marker Text c.in-Text.is

pub returns-in-Null : goal.returns-in-Null
unfolding kind_after
returns-in-Null c = told (goal.at.returns-in-Null c).In_ok-marker Null c.in-Null.is

pub returns-in-Undefined : goal.returns-in-Undefined
unfolding kind_after
returns-in-Undefined c = told (goal.at.returns-in-Undefined c).In_ok-marker Undefined c.in-Undefined.is

pub returns-in-StrictArray : goal.returns-in-StrictArray
unfolding kind_after
returns-in-StrictArray c = told (goal.at.returns-in-StrictArray c).In_ok-marker StrictArray c.in-StrictArray.is

pub returns-in-Object : goal.returns-in-Object
unfolding kind_after
returns-in-Object c =
    let b = (goal.at.returns-in-Object c).In_ok-marker in
    elim c.in-Object.is [ inl e ↦ told b Object e | inr e ↦ told b EcmaArray e ]
