-- `bodies::put_play` meets its contract: a command and the key.
-- Assumes nothing.
use Rattle.bodies.specs.Bodies.{play_body}
use Rattle.bodies.proofs.BodyLaws.{args-put, last-put}
use Rattle.bodies.proofs.commands.put_play.Goals as goal

pub returns : goal.returns
unfolding play_body
returns c = search (args-put, last-put)
