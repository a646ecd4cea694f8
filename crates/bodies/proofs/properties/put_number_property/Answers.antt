-- `bodies::put_number_property` meets its contract: the name and the value after it.
-- Assumes nothing.
use Rattle.octets.proofs.OutputLaws.{then}
use borrow.Author.Rules.{rules}
use Rattle.bodies.proofs.properties.put_number_property.Goals as goal

pub returns : goal.returns
returns c = search (then, rules)
