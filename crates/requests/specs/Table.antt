-- The open requests and the number that is due next.
-- Assumes nothing.
use Rattle.std.specs.Prelude.{ℕ, ◌+◌, Bool, cond, ◌&&◌, List, ltb, leb, replicate, Option, Some, None, Result, Ok, Err}
use Rattle.requests.specs.Texts.{stored}
use Rattle.requests.specs.Places.{empty_place, open_count, lookup, without, put, places_sound}
use Rattle.requests.specs.declared.outstanding_transaction.OutstandingTransaction.{OutstandingTransaction}
use Rattle.requests.specs.declared.place.Request.{Request}
use Rattle.requests.specs.declared.table.Requests.{Requests}
use Rattle.requests.specs.declared.table.TakeError.{TakeError}
use Rattle.requests.specs.declared.table.TakeError.TheVariants.{Spent, EightOpen}
use Rattle.messages.specs.declared.ids.TransactionNumber.{TransactionNumber}

-- numbers start at 1
unfoldable pub none : Requests
none = record { next = 1; places = replicate 8 empty_place }

-- refusal 13's condition on the number that is due next
abbrev pub next_sound : Requests → Bool
next_sound r = ltb 0 r.next && leb r.next 4294967296

-- refusal 13's conditions on numbers and on the texts of open requests
unfoldable pub requests_sound : Requests → Bool
requests_sound r = next_sound r && places_sound r.next r.places

-- refusal 11's condition, and refusal 10's
abbrev pub spent : Requests → Bool
spent r = leb 4294967296 r.next

abbrev pub eight_open : Requests → Bool
eight_open r = leb 8 (open_count r.places)

-- with a request under the next number; numbers rise by 1
unfoldable pub asked : Requests → OutstandingTransaction → List ℕ → Requests
asked r k t = record { next = r.next + 1; places = put (record { request = Some (record { 0 = r.next }, k); text = stored t }) r.places }

-- what taking answers, and the table after it
pub record Taken : Type 0 where
  pub answer : Result TransactionNumber TakeError
  pub requests : Requests

unfoldable pub take_of : Requests → OutstandingTransaction → List ℕ → Taken
take_of r k t =
    cond (spent r) (record { answer = Err Spent; requests = r })
    (cond (eight_open r) (record { answer = Err EightOpen; requests = r })
    (record { answer = Ok (record { 0 = r.next }); requests = asked r k t }))

-- with the request under that number closed
unfoldable pub closed : Requests → ℕ → Requests
closed r n = record { next = r.next; places = without n r.places }

-- the request that closing gives back, and the table after it
pub record Closed : Type 0 where
  pub request : Option Request
  pub requests : Requests

abbrev pub closed_by : Requests → ℕ → Option Request → Closed
closed_by r n None = record { request = None; requests = r }
closed_by r n (Some q) = record { request = Some q; requests = closed r n }

unfoldable pub close_of : Requests → TransactionNumber → Closed
close_of r n = closed_by r n.0 (lookup n.0 r.places)
