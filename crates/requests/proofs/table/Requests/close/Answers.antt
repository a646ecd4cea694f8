-- `Requests::close` meets its contract: by whether a request was found.
-- Assumes nothing.
use mathlib.Core.Path.{ap}
use Rattle.std.specs.Prelude.{Some}
use Rattle.requests.specs.Table.{close_of, closed}
use Rattle.requests.proofs.table.Requests.close.Goals as goal

pub returns-in_err-found : goal.returns-in_err-found
unfolding close_of
returns-in_err-found c = rw (← c.find.ensures, c.in_err-found.was, c.from_residual.ensures)

pub returns : goal.returns
unfolding close_of closed
returns c =
    rw (← c.find.ensures, c.in_ok-found.was)
    (ap (λ ps. record { request = Some c.in_ok-found.found; requests = record { next = c.args.self.now.next; places = ps } }) c.close.ensures)
