-- Acknowledgements (document 01, "The session's work", Bytes): modulo 2^32, the numbers of all acknowledgements plus pending equal the bytes
-- counted since the first window.
-- Assumes nothing.
use Rattle.std.specs.Prelude.{ℕ, ◌+◌, ◌%◌, ◌^◌, ◌≤◌, ◌<◌, ◌≡◌, Bool, true, false, cond, ◌||◌, List, [], ◌∷◌, eqb, length, Ok, Option, Some, None}
use Rattle.octets.specs.BigEndian.{be, digits}
use Rattle.messages.specs.Incoming.{window_size, decode}
use Rattle.messages.specs.declared.ids.RtmpTimestamp.{RtmpTimestamp}
use Rattle.messages.specs.declared.ids.StreamNumber.{StreamNumber}
use Rattle.session.specs.Calls.{Call, connect, play, publish, stop_playback, stop_publishing, ping, picture, sound, metadata, bytes, message, Message, plain}
use Rattle.session.specs.Record.{is_session, open_of}
use Rattle.session.specs.Step.{Stepped, step}
use Rattle.session.specs.declared.config.ClientSessionConfig.{ClientSessionConfig}
use Rattle.session.specs.declared.record.ClientSession.{ClientSession}
use Rattle.session.specs.declared.result.Outcome.TheVariants.{Nothing}
use Rattle.session_laws.specs.Refusals.{is_refused}
use Rattle.session_laws.specs.Lines.{Turn, Line, step_of, line_of, lines, after, sent_on}

-- the number in an Acknowledgement, type 3; of another message 0
abbrev pub acknowledgement : Message → ℕ
acknowledgement m = cond (eqb m.type_id 3) (be m.body) 0

unfoldable pub sum : List Message → ℕ
sum [] = 0
sum (m ∷ ms) = acknowledgement m + sum ms

-- the numbers of all acknowledgements that were sent
unfoldable pub acknowledged : List Line → ℕ
acknowledged [] = 0
acknowledged (l ∷ ls) = sum (sent_on l) + acknowledged ls

-- a message of type 5 sets the window
abbrev pub sets_window : Call → Bool
sets_window (message k t x b) = eqb k 5
sets_window (connect app) = false
sets_window (play key) = false
sets_window (publish key t) = false
sets_window stop_playback = false
sets_window stop_publishing = false
sets_window ping = false
sets_window (picture b t d) = false
sets_window (sound b t d) = false
sets_window (metadata m text) = false
sets_window (bytes n) = false

abbrev pub counts : Call → ℕ
counts (bytes n) = n
counts (connect app) = 0
counts (play key) = 0
counts (publish key t) = 0
counts stop_playback = 0
counts stop_publishing = 0
counts ping = 0
counts (picture b t d) = 0
counts (sound b t d) = 0
counts (metadata m text) = 0
counts (message k t x b) = 0

-- The bytes counted since the first window; `set` says whether one was set before these lines. A turned-away line counts for nothing, and a
-- window doesn't apply to the count before it.
unfoldable pub since : Bool → List Line → ℕ
since set [] = 0
since set (l ∷ ls) = cond (is_refused l.outcome) (since set ls) (cond set (counts l.call) 0 + since (set || sets_window l.call) ls)

abbrev pub is_set : Option ℕ → Bool
is_set None = false
is_set (Some w) = true

-- for every list of calls, from opening and from any session
abbrev pub Sum : Type 0
Sum =
    (c : ClientSessionConfig) → (open_of c).outcome ≡ Ok Nothing → (ts : List Turn) →
    (acknowledged (lines (open_of c).session ts) + (after (open_of c).session ts).link.pending) % 2 ^ 32
    ≡ since false (lines (open_of c).session ts) % 2 ^ 32

abbrev pub SumFrom : Type 0
SumFrom =
    (s : ClientSession) (ts : List Turn) →
    (acknowledged (lines s ts) + (after s ts).link.pending) % 2 ^ 32
    ≡ (s.link.pending + since (is_set s.link.window) (lines s ts)) % 2 ^ 32

-- for one call
pub record OneCall (s : ClientSession) (t : Turn) : Type 0 where
  pub sums :
      (sum (sent_on (line_of s t)) + (step_of s t).session.link.pending) % 2 ^ 32
      ≡ (s.link.pending + since (is_set s.link.window) (line_of s t ∷ [])) % 2 ^ 32
  pub sets :
      is_set (step_of s t).session.link.window
      ≡ cond (is_refused (step_of s t).outcome) (is_set s.link.window) (is_set s.link.window || sets_window t.call)

abbrev pub EveryTurn : Type 0
EveryTurn = (s : ClientSession) (t : Turn) → OneCall s t

-- A count on a session that 13 doesn't meet, with space for an Acknowledgement: what it sends, and the pending count and the total after it.
pub record Counts (s : ClientSession) (clock : RtmpTimestamp) (n : ℕ) (old : List ℕ) (sent : List Message) (pending : ℕ) : Type 0 where
  pub passes : is_refused (step s clock (bytes n) old).outcome ≡ false
  pub sends : sent_on (line_of s (record { clock = clock; call = bytes n; lent = old })) ≡ sent
  pub pending_is : (step s clock (bytes n) old).session.link.pending ≡ pending
  pub total_is : (step s clock (bytes n) old).session.link.total ≡ (s.link.total + n) % 2 ^ 64

module _ (s : ClientSession) (clock : RtmpTimestamp) (n : ℕ) (old : List ℕ) where
  -- an Acknowledgement of the low 32 bits of the sum; or none, and the pending count as it says
  abbrev pub Acknowledges : Type 0
  Acknowledges = Counts s clock n old (plain 3 clock (digits 4 ((s.link.pending + n) % 2 ^ 32)) ∷ []) 0

  abbrev pub Silent : ℕ → Type 0
  Silent pending = Counts s clock n old [] pending

-- by the window. A sum past 32 bits has reached every window, and window 0 is always reached
pub record ByWindow (s : ClientSession) (clock : RtmpTimestamp) (n : ℕ) (old : List ℕ) : Type 0 where
  pub no_window : s.link.window ≡ None → Silent s clock n old s.link.pending
  pub not_reached : (w : ℕ) → s.link.window ≡ Some w → s.link.pending + n < w → Silent s clock n old (s.link.pending + n)
  pub reached : (w : ℕ) → s.link.window ≡ Some w → w ≤ s.link.pending + n → Acknowledges s clock n old
  pub past : (w : ℕ) → s.link.window ≡ Some w → w < 2 ^ 32 → 2 ^ 32 ≤ s.link.pending + n → Acknowledges s clock n old
  pub window_zero : s.link.window ≡ Some 0 → Acknowledges s clock n old

abbrev pub EveryCount : Type 0
EveryCount = (s : ClientSession) (clock : RtmpTimestamp) (n : ℕ) (old : List ℕ) → is_session s ≡ true → 4 ≤ length old → ByWindow s clock n old

-- a message of type 5 that isn't turned away sets the window and sends nothing, whatever is pending; what is pending stays
pub record SetsWindow (s : ClientSession) (b : List ℕ) (old : List ℕ) (r : Stepped) : Type 0 where
  pub size : ℕ
  pub says : decode 5 b ≡ window_size size
  pub outcome_is : r.outcome ≡ Ok Nothing
  pub output_stays : r.output ≡ old
  pub window_is : r.session.link.window ≡ Some size
  pub pending_stays : r.session.link.pending ≡ s.link.pending

abbrev pub EveryWindow : Type 0
EveryWindow =
    (s : ClientSession) (clock : RtmpTimestamp) (t : RtmpTimestamp) (x : StreamNumber) (b : List ℕ) (old : List ℕ) →
    is_refused (step s clock (message 5 t x b) old).outcome ≡ false → SetsWindow s b old (step s clock (message 5 t x b) old)
