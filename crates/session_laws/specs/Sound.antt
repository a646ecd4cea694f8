-- What holds of a session from opening on, and that no call breaks it. So refusals 13 and 3 never come up.
-- Assumes nothing.
use Rattle.std.specs.Prelude.{ℕ, ◌<◌, ◌^◌, ◌≡◌, ◌≢◌, ◌⊎◌, true, length, Result, Ok, Err, Some, None}
use mathlib.Core.List.{List, Memᴰ}
use Rattle.octets.specs.BigEndian.{Bytes}
use Rattle.messages.specs.declared.ids.RtmpTimestamp.{RtmpTimestamp}
use Rattle.messages.specs.declared.ids.StreamNumber.{StreamNumber}
use Rattle.session.specs.Calls.{Call, connect, play, publish, stop_playback, stop_publishing, ping, picture, sound, metadata, bytes, message}
use Rattle.session.specs.Record.{is_session, open_of}
use Rattle.session.specs.Step.{step}
use Rattle.session.specs.declared.errors.ClientSessionError.{ClientSessionError}
use Rattle.session.specs.declared.config.ClientSessionConfig.{ClientSessionConfig}
use Rattle.session.specs.declared.errors.ClientSessionError.TheVariants.{NoKnownActiveStreamIdWhenRequired, NotASession}
use Rattle.session.specs.declared.record.ClientSession.{ClientSession}
use Rattle.session.specs.declared.record.Link.{Link}
use Rattle.session.specs.declared.record.Progress.{Progress}
use Rattle.session.specs.declared.result.Outcome.{Outcome}
use Rattle.session.specs.declared.result.Outcome.TheVariants.{Nothing}
use Rattle.session.specs.declared.state.ClientState.TheVariants.{Disconnected, Connected}
use Rattle.session_laws.specs.Lines.{Turn, Line, lines, after}

-- an active stream's number has 32 bits, and without one the stage is none of those with a stream
pub record Streamed (p : Progress) : Type 0 where
  pub below : (x : StreamNumber) → p.active ≡ Some x → x.0 < 2 ^ 32
  pub idle : p.active ≡ None → (p.state ≡ Disconnected) ⊎ (p.state ≡ Connected)

pub record Sound (s : ClientSession) : Type 0 where
  pub session : is_session s ≡ true
  pub eight : length s.requests.places ≡ 8
  pub streamed : Streamed s.progress
  pub total : s.link.total < 2 ^ 64

-- the window and the pending count have 32 bits
pub record Within (l : Link) : Type 0 where
  pub window_below : (w : ℕ) → l.window ≡ Some w → w < 2 ^ 32
  pub pending_below : l.pending < 2 ^ 32

-- a body that came is made of bytes
abbrev pub OfBytes : Call → Type 0
OfBytes (connect app) = Unit
OfBytes (play key) = Unit
OfBytes (publish key t) = Unit
OfBytes stop_playback = Unit
OfBytes stop_publishing = Unit
OfBytes ping = Unit
OfBytes (picture b t d) = Unit
OfBytes (sound b t d) = Unit
OfBytes (metadata m text) = Unit
OfBytes (bytes n) = Unit
OfBytes (message k t x b) = Bytes b

pub record Opened (s : ClientSession) : Type 0 where
  pub sound : Sound s
  pub within : Within s.link

abbrev pub FromOpening : Type 0
FromOpening = (c : ClientSessionConfig) → (open_of c).outcome ≡ Ok Nothing → Opened (open_of c).session

-- whatever the call's arguments and the lent output hold
abbrev pub StaysSound : Type 0
StaysSound = (s : ClientSession) (clock : RtmpTimestamp) (c : Call) (old : List ℕ) → Sound s → Sound (step s clock c old).session

abbrev pub StaysWithin : Type 0
StaysWithin =
    (s : ClientSession) (clock : RtmpTimestamp) (c : Call) (old : List ℕ) →
    OfBytes c → Within s.link → Within (step s clock c old).session.link

-- neither 13 nor 3
abbrev pub Never : Result Outcome ClientSessionError → Type 0
Never o = (o ≢ Err NotASession) × (o ≢ Err NoKnownActiveStreamIdWhenRequired)

abbrev pub NeverOnce : Type 0
NeverOnce = (s : ClientSession) (clock : RtmpTimestamp) (c : Call) (old : List ℕ) → Sound s → Never (step s clock c old).outcome

-- for every list of calls from opening
pub record AllAlong (s : ClientSession) (ts : List Turn) : Type 0 where
  pub stays : Sound (after s ts)
  pub never : (l : Line) → Memᴰ l (lines s ts) → Never l.outcome

abbrev pub AlwaysSound : Type 0
AlwaysSound = (c : ClientSessionConfig) → (open_of c).outcome ≡ Ok Nothing → (ts : List Turn) → AllAlong (open_of c).session ts
