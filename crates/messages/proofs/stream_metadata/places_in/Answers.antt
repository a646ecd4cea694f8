-- `messages::stream_metadata::places_in` meets its contract. The loop keeps that the last property of each field's name is the last from i on, or
-- else the one whose place is kept.
-- Assumes nothing.
use Rattle.std.proofs.Common.{◌≡◌, rules, arith, sym, ap, ◌∙◌}
use Rattle.std.specs.Prelude.{Some, None, Ok, Err}
use Rattle.octets.specs.Compare.{part}
use Rattle.amf0.specs.Places.{malformed}
use Rattle.amf0.proofs.FindLaws.{PropertyRead, property-says}
use Rattle.amf0.proofs.PlaceLaws.{err-is}
use Rattle.messages.specs.Metadata.{field_index}
use Rattle.messages.proofs.PlacesLaws.{index_below, keeps_hit, keeps_miss, kept, none_kept}
use Rattle.messages.proofs.stream_metadata.places_in.Goals as goal
use Rattle.messages.proofs.stream_metadata.places_in.Goals.{In-Some, In-Some-field_index}

-- the property that was read
read : (c : In-Some) → PropertyRead c.args.body.now c.loop-name.i c.in-Some.field-0.name.start c.in-Some.field-0.name.len c.in-Some.field-0.next
read c = property-says c.args.body.now c.loop-name.i (Ok (Some c.in-Some.field-0)) (search rules)

-- the field whose name it has
index : (c : In-Some-field_index)
    → Some c.in-Some-field_index.k ≡ field_index (part c.args.body.now c.in-Some.field-0.name.start c.in-Some.field-0.name.len)
index c = sym c.in-Some-field_index.is ∙ c.field_index.ensures ∙ ap field_index c.part_of.ensures

pub returns-in_err-name : goal.returns-in_err-name
returns-in_err-name c =
    err-is _ c.from_residual.ensures.0 ∙ none_kept c.args.body.now c.loop-name.invariant (property-says c.args.body.now c.loop-name.i (Err malformed) (search rules))

pub overflow_add-places : goal.overflow_add-places
overflow_add-places c = omega (arith, (read (goal.at.overflow_add-places c).In-Some).named.within)

pub offset_bounds-places-k : goal.offset_bounds-places-k
offset_bounds-places-k c = omega (arith, index_below _ _ (index (goal.at.offset_bounds-places-k c).In-Some-field_index))

pub bounds-places-k : goal.bounds-places-k
bounds-places-k c = index_below _ _ (index (goal.at.bounds-places-k c).In-Some-field_index)

pub loop-name-smaller-in-Some-field_index : goal.loop-name-smaller-in-Some-field_index
loop-name-smaller-in-Some-field_index c =
    let p = read (goal.at.loop-name-smaller-in-Some-field_index c).In-Some in omega (arith, p.named.past, p.valued.past, p.valued.within)

pub loop-name-preserved-in-Some-field_index : goal.loop-name-preserved-in-Some-field_index
loop-name-preserved-in-Some-field_index c =
    let b = goal.at.loop-name-preserved-in-Some-field_index c in
    keeps_hit _ c.loop-name.invariant (read b.In-Some) _ (index b.In-Some-field_index)

pub loop-name-smaller : goal.loop-name-smaller
loop-name-smaller c =
    let p = read (goal.at.loop-name-smaller c).In-Some in omega (arith, p.named.past, p.valued.past, p.valued.within)

pub loop-name-preserved : goal.loop-name-preserved
loop-name-preserved c =
    keeps_miss _ c.loop-name.invariant (read (goal.at.loop-name-preserved c).In-Some)
    (sym c.in_default-field_index.is ∙ c.field_index.ensures ∙ ap field_index c.part_of.ensures)

pub returns : goal.returns
returns c =
    kept c.args.body.now c.loop-name.invariant
    (property-says c.args.body.now c.loop-name.i (Ok None) (search rules)).1
