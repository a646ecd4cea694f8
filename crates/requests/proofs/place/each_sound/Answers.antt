-- `each_sound` meets its contract. The loop's invariant: the places are sound exactly if those from `i` on are.
-- Assumes nothing.
use mathlib.Core.Path.{sym, ◌∙◌}
use native.Mathlib.Omega.{arith}
use lib.ListN.{drop_of_length-le}
use Rattle.requests.specs.Places.{places_sound}
use Rattle.requests.proofs.SearchLaws.{sound-turn}
use Rattle.requests.proofs.place.each_sound.Goals as goal

pub returns-then-not-sound : goal.returns-then-not-sound
returns-then-not-sound c = sym (c.loop-i.invariant ∙ sound-turn c.args.next c.args.places.now c.loop-i.i (omega arith) c.if-not-sound.ensures (omega arith))

pub loop-i-preserved : goal.loop-i-preserved
loop-i-preserved c = c.loop-i.invariant ∙ sound-turn c.args.next c.args.places.now c.loop-i.i (omega arith) c.if-not-sound.ensures (omega arith)

pub returns : goal.returns
unfolding places_sound
returns c = rw (c.loop-i.invariant, drop_of_length-le c.args.places.now {i = c.loop-i.i} (omega arith))
