-- `Requests::sound` meets its contract: the next number first, then the places.
-- Assumes nothing.
use Rattle.std.proofs.Common.{rules}
use Rattle.std.proofs.lemmas.Grind.{common_steps}
use Rattle.requests.specs.Table.{requests_sound}
use Rattle.requests.proofs.table.Requests.sound.Goals as goal

pub returns-then-next_sound : goal.returns-then-next_sound
unfolding requests_sound
returns-then-next_sound c = rw (← c.next_sound.ensures, c.if-next_sound.true) (search (rules, common_steps))

pub returns-else-next_sound : goal.returns-else-next_sound
unfolding requests_sound
returns-else-next_sound c = rw (← c.next_sound.ensures, c.if-next_sound.false)
