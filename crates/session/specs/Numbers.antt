-- The numbers that document 01 gives to refusals, stages and events.
-- Assumes nothing.
use Rattle.std.specs.Prelude.{ℕ, cond, eqb, Result, Ok, Err}
use Rattle.session.specs.declared.errors.ClientSessionError.{ClientSessionError}
use Rattle.session.specs.declared.errors.ClientSessionError.TheVariants.{CantConnectWhileAlreadyConnected, SessionInInvalidState, NoKnownActiveStreamIdWhenRequired, CreateStreamFailed, CreateStreamResponseHadNoStreamNumber, InvalidOnStatusArguments, InvalidMaxChunkSize, MalformedBody, Length, EightOpen, Spent, Space, NotASession}
use Rattle.session.specs.declared.state.ClientState.{ClientState}
use Rattle.session.specs.declared.state.ClientState.TheVariants.{Disconnected, Connected, PlayRequested, Playing, PublishRequested, Publishing}
use Rattle.session.specs.declared.state.NoStage.{NoStage}
use Rattle.session.specs.declared.events.ClientSessionEvent.{ClientSessionEvent}
use Rattle.session.specs.declared.events.ClientSessionEvent.TheVariants.{ConnectionRequestAccepted, ConnectionRequestRejected, PlaybackRequestAccepted, PublishRequestAccepted, StreamMetadataReceived, VideoDataReceived, AudioDataReceived, UnhandleableAmf0Command, UnknownTransactionResultReceived, UnhandleableOnStatusCode, AcknowledgementReceived, PingResponseReceived}

-- the table of turned-away calls
abbrev pub refusal_number : ClientSessionError → ℕ
refusal_number CantConnectWhileAlreadyConnected = 1
refusal_number (SessionInInvalidState g) = 2
refusal_number NoKnownActiveStreamIdWhenRequired = 3
refusal_number CreateStreamFailed = 4
refusal_number CreateStreamResponseHadNoStreamNumber = 5
refusal_number InvalidOnStatusArguments = 6
refusal_number InvalidMaxChunkSize = 7
refusal_number MalformedBody = 8
refusal_number Length = 9
refusal_number EightOpen = 10
refusal_number Spent = 11
refusal_number Space = 12
refusal_number NotASession = 13

-- the mission's order
abbrev pub stage_number : ClientState → ℕ
stage_number Disconnected = 0
stage_number Connected = 1
stage_number PlayRequested = 2
stage_number Playing = 3
stage_number PublishRequested = 4
stage_number Publishing = 5

-- the stage of a number
unfoldable pub stage_of : ℕ → Result ClientState NoStage
stage_of n =
    cond (eqb n (stage_number Disconnected)) (Ok Disconnected)
    (cond (eqb n (stage_number Connected)) (Ok Connected)
    (cond (eqb n (stage_number PlayRequested)) (Ok PlayRequested)
    (cond (eqb n (stage_number Playing)) (Ok Playing)
    (cond (eqb n (stage_number PublishRequested)) (Ok PublishRequested)
    (cond (eqb n (stage_number Publishing)) (Ok Publishing)
    (Err (record {})))))))

-- an event's place in events.rs, counted from 0
abbrev pub event_place : ClientSessionEvent → ℕ
event_place ConnectionRequestAccepted = 0
event_place (ConnectionRequestRejected t) = 1
event_place PlaybackRequestAccepted = 2
event_place PublishRequestAccepted = 3
event_place (StreamMetadataReceived m) = 4
event_place (VideoDataReceived t) = 5
event_place (AudioDataReceived t) = 6
event_place (UnhandleableAmf0Command name n object args) = 7
event_place (UnknownTransactionResultReceived n object args) = 8
event_place (UnhandleableOnStatusCode code) = 9
event_place (AcknowledgementReceived n) = 10
event_place (PingResponseReceived t) = 11
