-- `find` meets its contract: the first place that is open under the number.
-- Assumes nothing.
use borrow.Author.Rules.{rules}
use Rattle.std.proofs.iter.runs.Made.{chains}
use Rattle.requests.proofs.SearchLaws.{found-first}
use Rattle.requests.proofs.place.find.Goals as goal

pub returns : goal.returns
returns c = found-first c.args.number.0 c.args.places.now c.find_map.result (search (rules, chains))
