-- What the parts of the calls hand back: `Does` at a plan instead of a call, for a record that refusal 13 doesn't meet.
-- Assumes nothing.
use Rattle.std.specs.Prelude.{◌≡◌, ℕ, Bool, false, cond, List, Result, Ok, Err, ⊤, Option, Some, None}
use Rattle.messages.specs.declared.ids.RtmpTimestamp.{RtmpTimestamp}
use Rattle.messages.specs.declared.ids.StreamNumber.{StreamNumber}
use Rattle.requests.specs.declared.table.TakeError.{TakeError}
use Rattle.requests.specs.declared.table.TakeError.TheVariants as take
use Rattle.session.specs.Record.{is_session}
use Rattle.session.specs.Plan.{Plan, is_publishing}
use Rattle.session.specs.Step.{fitted}
use Rattle.session.specs.declared.errors.ClientSessionError.{ClientSessionError}
use Rattle.session.specs.declared.errors.ClientSessionError.TheVariants.{SessionInInvalidState, NoKnownActiveStreamIdWhenRequired, EightOpen, Spent, NotASession}
use Rattle.session.specs.declared.record.Called.{Called}
use Rattle.session.specs.declared.record.ClientSession.{ClientSession}
use Rattle.session.specs.declared.result.Outcome.{Outcome}
use Rattle.session.specs.declared.result.Outcome.TheVariants.{Nothing}
use Rattle.session.specs.declared.result.Packet.{Packet}

pub record Comes (s : ClientSession) (p : Plan) (old : List ℕ) (r : Called) (exit : List ℕ) : Type 0 where
  pub answers : r.outcome ≡ (fitted s old p).outcome
  pub hands_back : r.session ≡ (fitted s old p).session
  pub leaves : exit ≡ (fitted s old p).output

-- an outcome beside the session after it
abbrev pub called : Result Outcome ClientSessionError → ClientSession → Called
called o s = record { outcome = o; session = s }

-- turned away; an empty success
abbrev pub refused_with : ClientSession → ClientSessionError → Called
refused_with s e = called (Err e) s

abbrev pub quiet : ClientSession → Called
quiet s = called (Ok Nothing) s

-- refusal 13, or none
unfoldable pub checked : ClientSession → Result ⊤ ClientSessionError
checked s = cond (is_session s) (Ok tt) (Err NotASession)

-- the stream to publish on, or the first of refusals 13, 2 and 3
abbrev pub active_of : Option StreamNumber → Result StreamNumber ClientSessionError
active_of None = Err NoKnownActiveStreamIdWhenRequired
active_of (Some x) = Ok x

unfoldable pub stream_of : ClientSession → Result StreamNumber ClientSessionError
stream_of s =
    cond (is_session s)
    (cond (is_publishing s.progress.state) (active_of s.progress.active) (Err (SessionInInvalidState s.progress.state)))
    (Err NotASession)

-- a message whose body is the first n bytes of the output
abbrev pub packet_of : ℕ → RtmpTimestamp → StreamNumber → Bool → ℕ → Packet
packet_of k t x d n =
    record { type_id = k; time = t; stream = x; droppable = d; uncompressed = false; start = 0; len = n }

-- refusals 11 and 10
abbrev pub take_refusal : TakeError → ClientSessionError
take_refusal take.Spent = Spent
take_refusal take.EightOpen = EightOpen
