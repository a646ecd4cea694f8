-- What a call does: 13 in front, the plan of the call, and one test of the space.
-- Assumes nothing.
use Rattle.std.specs.Prelude.{ℕ, false, cond, not, List, [], ◌∷◌, length, nat_lt, Result, Ok, Err}
use Rattle.amf0.specs.Places.{stretch}
use Rattle.messages.specs.Incoming.{decode}
use Rattle.messages.specs.Numbers.{type_number, audio, video, amf0_data}
use Rattle.messages.specs.Places.{placed}
use Rattle.messages.specs.declared.ids.RtmpTimestamp.{RtmpTimestamp}
use Rattle.bodies.specs.MetadataBody.{metadata_body}
use Rattle.requests.specs.declared.outstanding_transaction.OutstandingTransaction.TheVariants.{ConnectionRequested, CreateStream}
use Rattle.requests.specs.declared.outstanding_transaction.TransactionPurpose.TheVariants.{PlayRequest, PublishRequest}
use Rattle.session.specs.Record.{is_session}
use Rattle.session.specs.Calls.{Call, connect, play, publish, stop_playback, stop_publishing, ping, picture, sound, metadata, bytes, message, on_stream}
use Rattle.session.specs.Outcomes.{output, written, outcome_of}
use Rattle.session.specs.Plan.{Plan, refuse, close, go, Check, in_order, is_disconnected, is_connected, is_play, is_publish, unless_stage, if_long, if_large, request, connect_next, create_next, stop, published, ping_plan, count}
use Rattle.session.specs.Message.{on_message}
use Rattle.session.specs.declared.errors.ClientSessionError.{ClientSessionError}
use Rattle.session.specs.declared.errors.ClientSessionError.TheVariants.{CantConnectWhileAlreadyConnected, Space, NotASession}
use Rattle.session.specs.declared.record.ClientSession.{ClientSession}
use Rattle.session.specs.declared.result.Outcome.{Outcome}

-- connect at another stage than Disconnected is refusal 1
abbrev pub unless_disconnected : ClientSession → Check
unless_disconnected s = record { when = not (is_disconnected s.progress.state); says = CantConnectWhileAlreadyConnected }

-- the refusals but for 13 and 12, in document 01's order; then results and a session
unfoldable pub plan : ClientSession → RtmpTimestamp → Call → Plan
plan s clock (connect app) = request s clock (unless_disconnected s) ConnectionRequested app (connect_next s app)
plan s clock (play key) = request s clock (unless_stage is_connected s) (CreateStream PlayRequest) key (create_next s)
plan s clock (publish key t) = request s clock (unless_stage is_connected s) (CreateStream (PublishRequest t)) key (create_next s)
plan s clock stop_playback = stop s clock is_play
plan s clock stop_publishing = stop s clock is_publish
plan s clock ping = ping_plan s clock
plan s clock (picture b t d) =
    published s clock (if_large b) (λ x. record { type_id = type_number video; time = t; stream = x; droppable = d; uncompressed = false; body = b })
plan s clock (sound b t d) =
    published s clock (if_large b) (λ x. record { type_id = type_number audio; time = t; stream = x; droppable = d; uncompressed = false; body = b })
plan s clock (metadata m text) =
    published s clock (if_long (stretch text m.encoder)) (λ x. on_stream (type_number amf0_data) clock x (metadata_body text m))
plan s clock (bytes n) = count s clock n
plan s clock (message k t x b) = in_order (if_large b ∷ []) (on_message s clock b k t x (placed b (decode k b)))

-- what a call answers, the session it hands back, and the lent output as it leaves it
pub record Stepped : Type 0 where
  pub outcome : Result Outcome ClientSessionError
  pub session : ClientSession
  pub output : List ℕ

-- turned away: no output byte is written
abbrev pub away : ClientSessionError → ClientSession → List ℕ → Stepped
away e s old = record { outcome = Err e; session = s; output = old }

-- refusal 12 last: the output is shorter than all bodies together
unfoldable pub fitted : ClientSession → List ℕ → Plan → Stepped
fitted s old (refuse e) = away e s old
fitted s old (close e after) = away e after old
fitted s old (go rs after) =
    cond (nat_lt (length old) (length (output rs)))
    (away Space s old)
    (record { outcome = Ok (outcome_of rs); session = after; output = written old rs })

unfoldable pub step : ClientSession → RtmpTimestamp → Call → List ℕ → Stepped
step s clock c old = cond (is_session s) (fitted s old (plan s clock c)) (away NotASession s old)
