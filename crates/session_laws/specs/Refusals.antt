-- Document 01's table of turned-away calls, call by call in its order, and that each refusal is given exactly when its condition is the first
-- to hold.
-- Assumes nothing.
use Rattle.std.specs.Prelude.{ℕ, ◌≤◌, ◌<◌, ◌≡◌, ◌↔◌, ◌≢◌, ◌⊎◌, Bool, true, false, List, [], ◌∷◌, ◌++◌, length, Result, Ok, Err, None}
use Rattle.amf0.specs.Places.{stretch}
use Rattle.messages.specs.Incoming.{decode, malformed}
use Rattle.messages.specs.declared.ids.RtmpTimestamp.{RtmpTimestamp}
use Rattle.requests.specs.Places.{open_count}
use Rattle.session.specs.Calls.{Call, connect, play, publish, stop_playback, stop_publishing, ping, picture, sound, metadata, bytes, message}
use Rattle.session.specs.Record.{open_of}
use Rattle.session.specs.Step.{step}
use Rattle.session.specs.declared.config.ClientSessionConfig.{ClientSessionConfig}
use Rattle.session.specs.declared.errors.ClientSessionError.{ClientSessionError}
use Rattle.session.specs.declared.errors.ClientSessionError.TheVariants.{CantConnectWhileAlreadyConnected, SessionInInvalidState, NoKnownActiveStreamIdWhenRequired, CreateStreamFailed, CreateStreamResponseHadNoStreamNumber, InvalidOnStatusArguments, InvalidMaxChunkSize, MalformedBody, Length, EightOpen, Spent, Space, NotASession}
use Rattle.session.specs.declared.record.ClientSession.{ClientSession}
use Rattle.session.specs.declared.result.Outcome.{Outcome}
use Rattle.session.specs.declared.state.ClientState.TheVariants.{Disconnected, Connected, Publishing}
use Rattle.session_laws.specs.Order.{Row, ◌if◌, First, NoneOf, OneAtMost}
use Rattle.session_laws.specs.Conditions.{Unfit, UnfitText, UnfitUrl, LargeChunk, stage, NoSession, WrongStage, NotCreated, NoStreamNumber, BadNotice, PeerChunk}
use Rattle.session_laws.specs.Space.{Short}

abbrev pub is_refused : Result Outcome ClientSessionError → Bool
is_refused (Err e) = true
is_refused (Ok o) = false

-- opening: 9, 7
abbrev pub opening : ClientSessionConfig → List Row
opening c =
    Length if (UnfitText c.flash_version ⊎ UnfitUrl c.tc_url)
    ∷ InvalidMaxChunkSize if LargeChunk c.chunk_size
    ∷ []

-- what a request has in common: 9, 11, 10
abbrev pub asking : ClientSession → List ℕ → List Row → List Row
asking s t rows =
    Length if Unfit t
    ∷ Spent if (s.requests.next ≡ 4294967296) ∷ EightOpen if (8 ≤ open_count s.requests.places)
    ∷ rows

-- what is sent at Publishing on the active stream: 2, 3, 9
abbrev pub sending : ClientSession → Type 0 → List Row → List Row
sending s long rows =
    SessionInInvalidState (stage s) if (stage s ≢ Publishing)
    ∷ NoKnownActiveStreamIdWhenRequired if (s.progress.active ≡ None) ∷ Length if long
    ∷ rows

abbrev pub LongBody : List ℕ → Type 0
LongBody b = 16777215 < length b

-- what a message comes to after 9 and 8: 2, 4, 5, 6 or 7
abbrev pub judged : ClientSession → ℕ → List ℕ → List Row
judged s k b =
    SessionInInvalidState (stage s) if WrongStage s k b
    ∷ CreateStreamFailed if NotCreated s k b
    ∷ CreateStreamResponseHadNoStreamNumber if NoStreamNumber s k b
    ∷ InvalidOnStatusArguments if BadNotice k b
    ∷ InvalidMaxChunkSize if PeerChunk k b
    ∷ []

-- between 13 and 12
abbrev pub between : ClientSession → Call → List Row → List Row
between s (connect app) rows = CantConnectWhileAlreadyConnected if (stage s ≢ Disconnected) ∷ asking s app rows
between s (play key) rows = SessionInInvalidState (stage s) if (stage s ≢ Connected) ∷ asking s key rows
between s (publish key t) rows = SessionInInvalidState (stage s) if (stage s ≢ Connected) ∷ asking s key rows
between s stop_playback rows = rows
between s stop_publishing rows = rows
between s ping rows = rows
between s (picture b t d) rows = sending s (LongBody b) rows
between s (sound b t d) rows = sending s (LongBody b) rows
between s (metadata m text) rows = sending s (Unfit (stretch text m.encoder)) rows
between s (bytes n) rows = rows
between s (message k t x b) rows = Length if LongBody b ∷ MalformedBody if (decode k b ≡ malformed) ∷ (judged s k b ++ rows)

abbrev pub table : ClientSession → Call → List ℕ → List Row
table s c old = NotASession if NoSession s ∷ between s c (Space if Short s c old ∷ [])

-- the outcome of every call is the refusal that is first in the table, and a success exactly if no condition holds
pub record Exactly (rows : List Row) (outcome : Result Outcome ClientSessionError) : Type 0 where
  pub turned_away : (e : ClientSessionError) → (outcome ≡ Err e) ↔ First rows e
  pub passes : (is_refused outcome ≡ false) ↔ NoneOf rows

abbrev pub EveryCall : Type 0
EveryCall = (s : ClientSession) (clock : RtmpTimestamp) (c : Call) (old : List ℕ) → Exactly (table s c old) (step s clock c old).outcome

abbrev pub EveryOpening : Type 0
EveryOpening = (c : ClientSessionConfig) → Exactly (opening c) (open_of c).outcome

-- the order among 2, 4, 5, 6 and 7 doesn't matter
abbrev pub EveryMessage : Type 0
EveryMessage = (s : ClientSession) (k : ℕ) (b : List ℕ) → OneAtMost (judged s k b)
