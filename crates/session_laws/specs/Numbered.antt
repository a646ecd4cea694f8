-- Numbers for requests start at 1 and rise by 1 (document 01, "The session's work").
-- Assumes nothing.
use Rattle.std.specs.Prelude.{ℕ, ◌+◌, ◌≡◌, cond, List, [], ◌∷◌, Ok, Some}
use Rattle.bodies.specs.Sent.{request_number}
use Rattle.session.specs.Calls.{Call, connect, play, publish, stop_playback, stop_publishing, ping, picture, sound, metadata, bytes, message, Message}
use Rattle.session.specs.Record.{open_of}
use Rattle.session.specs.declared.config.ClientSessionConfig.{ClientSessionConfig}
use Rattle.session.specs.declared.record.ClientSession.{ClientSession}
use Rattle.session.specs.declared.result.Outcome.TheVariants.{Nothing}
use Rattle.session_laws.specs.Refusals.{is_refused}
use Rattle.session_laws.specs.Lines.{Turn, Line, step_of, line_of, lines, after, sent_on}

-- how many new numbers a call asks for
abbrev pub asks : Call → ℕ
asks (connect app) = 1
asks (play key) = 1
asks (publish key t) = 1
asks stop_playback = 0
asks stop_publishing = 0
asks ping = 0
asks (picture b t d) = 0
asks (sound b t d) = 0
asks (metadata m text) = 0
asks (bytes n) = 0
asks (message k t x b) = 0

-- a turned-away line asked for nothing
abbrev pub given : Line → ℕ
given l = cond (is_refused l.outcome) 0 (asks l.call)

unfoldable pub all_given : List Line → ℕ
all_given [] = 0
all_given (l ∷ ls) = given l + all_given ls

-- the next number rises by the numbers that were given, and at no other call
abbrev pub Rises : Type 0
Rises = (s : ClientSession) (t : Turn) → (step_of s t).session.requests.next ≡ s.requests.next + given (line_of s t)

-- one message goes out, a request under that number
pub record Sends (l : Line) (n : ℕ) : Type 0 where
  pub one : Message
  pub sent : sent_on l ≡ one ∷ []
  pub number : request_number one.type_id one.body ≡ Some n

-- a request that isn't turned away sends the number that was due
abbrev pub SendsNext : Type 0
SendsNext = (s : ClientSession) (t : Turn) → given (line_of s t) ≡ 1 → Sends (line_of s t) s.requests.next

-- from opening: one more than the requests before it that weren't turned away
abbrev pub FromOne : Type 0
FromOne =
    (c : ClientSessionConfig) → (open_of c).outcome ≡ Ok Nothing → (ts : List Turn) (t : Turn) →
    given (line_of (after (open_of c).session ts) t) ≡ 1 →
    Sends (line_of (after (open_of c).session ts) t) (1 + all_given (lines (open_of c).session ts))
