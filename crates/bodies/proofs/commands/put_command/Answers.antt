-- `bodies::put_command` meets its contract: the name and the number, and null.
-- Assumes nothing.
use Rattle.bodies.proofs.BodyLaws.{head-put, last-put}
use borrow.Author.Rules.{rules}
use Rattle.bodies.proofs.commands.put_command.Goals as goal

pub returns : goal.returns
returns c = search (head-put, last-put, rules)
