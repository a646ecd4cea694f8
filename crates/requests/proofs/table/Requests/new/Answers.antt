-- `Requests::new` meets its contract.
-- Assumes nothing.
use Rattle.requests.specs.Table.{none}
use Rattle.requests.proofs.table.Requests.new.Goals as goal

pub returns : goal.returns
unfolding none
returns c = rw c.empty.ensures
