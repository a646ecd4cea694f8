-- Calls one after the other, and what is known of each afterwards: the call, its outcome and the output as it was left.
-- Assumes nothing.
use Rattle.std.specs.Prelude.{ℕ, List, [], ◌∷◌, Result, Ok, Err}
use Rattle.octets.specs.Compare.{part}
use Rattle.messages.specs.declared.ids.RtmpTimestamp.{RtmpTimestamp}
use Rattle.session.specs.Calls.{Call, Message}
use Rattle.session.specs.Step.{Stepped, step}
use Rattle.session.specs.declared.errors.ClientSessionError.{ClientSessionError}
use Rattle.session.specs.declared.events.ClientSessionEvent.TheVariants.{ConnectionRequestAccepted}
use Rattle.session.specs.declared.record.ClientSession.{ClientSession}
use Rattle.session.specs.declared.result.ClientSessionResult.{ClientSessionResult}
use Rattle.session.specs.declared.result.ClientSessionResult.TheVariants.{OutboundResponse, RaisedEvent, UnhandleableMessageReceived}
use Rattle.session.specs.declared.result.Outcome.{Outcome}
use Rattle.session.specs.declared.result.Outcome.TheVariants.{Nothing, One, Two, Accepted, Pinged}
use Rattle.session.specs.declared.result.Packet.{Packet}

-- the clock, the call and the lent output
pub record Turn : Type 0 where
  pub clock : RtmpTimestamp
  pub call : Call
  pub lent : List ℕ

pub record Line : Type 0 where
  pub call : Call
  pub outcome : Result Outcome ClientSessionError
  pub output : List ℕ

abbrev pub step_of : ClientSession → Turn → Stepped
step_of s t = step s t.clock t.call t.lent

abbrev pub line_of : ClientSession → Turn → Line
line_of s t = record { call = t.call; outcome = (step_of s t).outcome; output = (step_of s t).output }

unfoldable pub lines : ClientSession → List Turn → List Line
lines s [] = []
lines s (t ∷ ts) = line_of s t ∷ lines (step_of s t).session ts

-- the session after them
unfoldable pub after : ClientSession → List Turn → ClientSession
after s [] = s
after s (t ∷ ts) = after (step_of s t).session ts

-- the messages that an outcome's packets are, with their bodies read from the output
unfoldable pub results_of : Result Outcome ClientSessionError → List ClientSessionResult
results_of (Err e) = []
results_of (Ok Nothing) = []
results_of (Ok (One a)) = a ∷ []
results_of (Ok (Two a b)) = OutboundResponse a ∷ OutboundResponse b ∷ []
results_of (Ok (Accepted a b)) = OutboundResponse a ∷ RaisedEvent ConnectionRequestAccepted ∷ OutboundResponse b ∷ []
results_of (Ok (Pinged a t)) = OutboundResponse a ∷ []

abbrev pub message_at : List ℕ → Packet → Message
message_at out p =
    record {
      type_id = p.type_id;
      time = p.time;
      stream = p.stream;
      droppable = p.droppable;
      uncompressed = p.uncompressed;
      body = part out p.start p.len;
    }

unfoldable pub messages_in : List ℕ → List ClientSessionResult → List Message
messages_in out [] = []
messages_in out (OutboundResponse p ∷ rs) = message_at out p ∷ messages_in out rs
messages_in out (RaisedEvent e ∷ rs) = messages_in out rs
messages_in out (UnhandleableMessageReceived t ∷ rs) = messages_in out rs

abbrev pub sent_on : Line → List Message
sent_on l = messages_in l.output (results_of l.outcome)
