-- `close` meets its contract. The loop's invariant: the places before the one that is due are closed, and the others are as they were.
-- Assumes nothing.
use mathlib.Core.Path.{refl, ap, ◌∙◌}
use native.Mathlib.Omega.{arith}
use lib.ListN.{set}
use Rattle.requests.specs.Places.{without}
use Rattle.requests.proofs.SearchLaws.{close-turn}
use Rattle.requests.proofs.place.close.Goals as goal
use Rattle.requests.proofs.place.close.Goals.{then-is_open_as, else-is_open_as}

pub loop-place-init : goal.loop-place-init
unfolding without
loop-place-init c = refl

pub loop-place-preserved : goal.loop-place-preserved
loop-place-preserved c =
    let l = c.loop-place in
    let n = c.args.number.0 in
    elim c.if-is_open_as.branch [
      | then-is_open_as w ↦
          close-turn n c.args.places.now l.places l.place-index (omega arith) (omega arith) l.invariant w.if-is_open_as.ensures (w.places-is ∙ ap (set l.places l.place-index) w.empty.ensures)
      | else-is_open_as w ↦ close-turn n c.args.places.now l.places l.place-index (omega arith) (omega arith) l.invariant w.if-is_open_as.ensures w.places-is
    ]
