-- The runs of the program: any list of the calls, by value and borrowing ones mixed, refused ones included, whatever clock and output each is given. Of a
-- call nothing is known but its contract, and the journal's line is made of what the call returned and left in the output.
-- Assumes nothing.
use Rattle.std.specs.Prelude.{ℕ, ◌≡◌, List, [], ◌∷◌, Result, Ok, Err, Option, Some, None}
use Rattle.messages.specs.declared.ids.RtmpTimestamp.{RtmpTimestamp}
use Rattle.messages.specs.declared.ids.StreamNumber.{StreamNumber}
use Rattle.requests.specs.declared.outstanding_transaction.OutstandingTransaction.{OutstandingTransaction}
use Rattle.session.specs.Calls.{Call, bytes, message}
use Rattle.session.specs.Contract.{Does}
use Rattle.session.specs.Numbers.{refusal_number}
use Rattle.session.specs.Record.{open_of}
use Rattle.session.specs.declared.errors.ClientSessionError.{ClientSessionError}
use Rattle.session.specs.declared.config.ClientSessionConfig.{ClientSessionConfig}
use Rattle.session.specs.declared.record.Called.{Called}
use Rattle.session.specs.declared.record.ClientSession.{ClientSession}
use Rattle.session.specs.declared.result.Outcome.{Outcome}
use Rattle.session.specs.declared.result.Outcome.TheVariants.{Nothing}
use Rattle.borrowing.specs.Borrowed.{request_call, Stores}
use Rattle.session_laws.specs.Lines.{results_of, messages_in}
use Rattle.journal.specs.Lines.{Line, Journal}

unfoldable pub away_by : Result Outcome ClientSessionError → Option ℕ
away_by (Err e) = Some (refusal_number e)
away_by (Ok o) = None

-- the line of a call that answered so and left that in the output
unfoldable pub line_of : Call → Result Outcome ClientSessionError → List ℕ → Line
line_of c o exit = record { call = c; turned_away = away_by o; sent = messages_in exit (results_of o) }

pub data Trace : ClientSession → Journal → Type 0 where
  -- the session that the opening function handed back without a refusal
  opened : (c : ClientSessionConfig) (r : Called) → r ≡ open_of c → r.outcome ≡ Ok Nothing → Trace r.session []
  -- a call on the session that the last one handed back or stored
  called : {s : ClientSession} {j : Journal} → Trace s j
      → (c : Call) (clock : RtmpTimestamp) (old : List ℕ) (r : Called) (exit : List ℕ) → Does s clock c old r exit
      → Trace r.session (line_of c r.outcome exit ∷ j)
  -- the calls that borrow it, each counted as the call whose result it stores
  request_borrowed : {s : ClientSession} {j : Journal} → Trace s j
      → (k : OutstandingTransaction) (text : List ℕ) (clock : RtmpTimestamp) (old : List ℕ) (o : Result Outcome ClientSessionError) (after : ClientSession) (exit : List ℕ)
      → Stores s clock (request_call k text) old o after exit → Trace after (line_of (request_call k text) o exit ∷ j)
  message_borrowed : {s : ClientSession} {j : Journal} → Trace s j
      → (k : ℕ) (time : RtmpTimestamp) (x : StreamNumber) (body : List ℕ) (clock : RtmpTimestamp) (old : List ℕ) (o : Result Outcome ClientSessionError) (after : ClientSession) (exit : List ℕ)
      → Stores s clock (message k time x body) old o after exit → Trace after (line_of (message k time x body) o exit ∷ j)
  bytes_borrowed : {s : ClientSession} {j : Journal} → Trace s j
      → (n : ℕ) (clock : RtmpTimestamp) (old : List ℕ) (o : Result Outcome ClientSessionError) (after : ClientSession) (exit : List ℕ)
      → Stores s clock (bytes n) old o after exit → Trace after (line_of (bytes n) o exit ∷ j)
