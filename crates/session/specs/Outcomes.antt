-- What a call answers and what it leaves in the lent output, from its results.
-- Assumes nothing.
use Rattle.std.specs.Prelude.{ℕ, List, [], ◌∷◌, ◌++◌, length, drop}
use Rattle.session.specs.Calls.{Message, Result, sends, raises, unhandled, Results, nothing, one, two, accepts, pinged}
use Rattle.session.specs.declared.events.ClientSessionEvent.TheVariants.{ConnectionRequestAccepted}
use Rattle.session.specs.declared.result.ClientSessionResult.{ClientSessionResult}
use Rattle.session.specs.declared.result.ClientSessionResult.TheVariants.{OutboundResponse, RaisedEvent, UnhandleableMessageReceived}
use Rattle.session.specs.declared.result.Outcome.{Outcome}
use Rattle.session.specs.declared.result.Outcome.TheVariants.{Nothing, One, Two, Accepted, Pinged}
use Rattle.session.specs.declared.result.Packet.{Packet}

unfoldable pub in_turn : Results → List Result
in_turn nothing = []
in_turn (one a) = a ∷ []
in_turn (two a b) = sends a ∷ sends b ∷ []
in_turn (accepts a b) = sends a ∷ raises ConnectionRequestAccepted ∷ sends b ∷ []
in_turn (pinged a t) = sends a ∷ []

unfoldable pub sent_by : List Result → List Message
sent_by [] = []
sent_by (sends m ∷ rs) = m ∷ sent_by rs
sent_by (raises e ∷ rs) = sent_by rs
sent_by (unhandled t ∷ rs) = sent_by rs

-- the bodies one after the other
unfoldable pub bodies : List Message → List ℕ
bodies [] = []
bodies (m ∷ ms) = m.body ++ bodies ms

-- all that a call with these results writes
abbrev pub output : Results → List ℕ
output rs = bodies (sent_by (in_turn rs))

-- from output byte 0, and no further byte
abbrev pub written : List ℕ → Results → List ℕ
written old rs = output rs ++ drop (length (output rs)) old

-- a message whose body starts at that place of the output
abbrev pub packet : ℕ → Message → Packet
packet at m =
    record {
      type_id = m.type_id;
      time = m.time;
      stream = m.stream;
      droppable = m.droppable;
      uncompressed = m.uncompressed;
      start = at;
      len = length m.body;
    }

abbrev pub answered : ℕ → Result → ClientSessionResult
answered at (sends m) = OutboundResponse (packet at m)
answered at (raises e) = RaisedEvent e
answered at (unhandled t) = UnhandleableMessageReceived t

-- how much of the output a result takes
abbrev pub taken : Result → ℕ
taken (sends m) = length m.body
taken (raises e) = 0
taken (unhandled t) = 0

unfoldable pub outcome_of : Results → Outcome
outcome_of nothing = Nothing
outcome_of (one a) = One (answered 0 a)
outcome_of (two a b) = Two (packet 0 a) (packet (length a.body) b)
outcome_of (accepts a b) = Accepted (packet 0 a) (packet (length a.body) b)
outcome_of (pinged a t) = Pinged (packet 0 a) t
