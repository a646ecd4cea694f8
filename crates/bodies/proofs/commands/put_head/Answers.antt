-- `bodies::put_head` meets its contract: the name, and the Number that the request's number is.
-- Assumes nothing.
use Rattle.octets.proofs.OutputLaws.{then}
use borrow.Author.Rules.{rules}
use Rattle.bodies.proofs.commands.put_head.Goals as goal

pub returns : goal.returns
returns c = rw (← c.number_of.ensures) (search (then, rules))
