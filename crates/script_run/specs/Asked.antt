-- What a line asks for, and what it comes to: no call, a call of the session, or a new session.
-- Assumes nothing.
use Rattle.std.specs.Prelude.{ℕ, ◌≡◌, cond, List, ltb, length, is_err, Option, Some, None, Result, Ok, Err}
use Rattle.octets.specs.Compare.{part}
use Rattle.messages.specs.declared.ids.RtmpTimestamp.{RtmpTimestamp}
use Rattle.messages.specs.declared.stream_metadata.StreamMetadata.{StreamMetadata}
use Rattle.requests.specs.Texts.{stored}
use Rattle.requests.specs.declared.text.Text.{Text}
use Rattle.session.specs.Calls.{Call, connect, play, publish, stop_playback, stop_publishing, ping, picture, sound, metadata, bytes, message}
use Rattle.session.specs.Record.{default_config, open_of}
use Rattle.session.specs.Step.{step}
use Rattle.session.specs.declared.config.ClientSessionConfig.{ClientSessionConfig}
use Rattle.session.specs.declared.record.Called.{Called}
use Rattle.session.specs.declared.record.ClientSession.{ClientSession}
use Rattle.script.specs.Hex.{is_hex, pairs}
use Rattle.script.specs.Metadata.{metadata_line}
use Rattle.script.specs.declared.asked.Line.{Line}
use Rattle.script.specs.declared.asked.Line.TheVariants as line
use Rattle.script.specs.declared.asked.Settings.{Settings}
use Rattle.octets.specs.declared.span.Span.{Span}
use Rattle.script.specs.declared.reasons.Why.{Why}
use Rattle.script.specs.declared.reasons.Why.TheVariants.{Hex, BodyLength}
use Rattle.script_run.specs.declared.told.Came.{Came}
use Rattle.script_run.specs.declared.told.Came.TheVariants.{Passed, Space, Answer}
use Rattle.script_run.specs.declared.told.Ran.{Ran}

pub data Asked : Type 0 where
  -- nothing
  passes : Asked
  -- it can't be read
  unread : Why → Asked
  -- the length of the lent output for the lines after
  lends : ℕ → Asked
  -- the clock and the call
  calls : RtmpTimestamp → Call → Asked
  -- a session with these settings
  opens : ClientSessionConfig → Asked

-- the text or the digits at a place of the line
abbrev pub text_at : List ℕ → Span → List ℕ
text_at s at = part s at.start at.len

-- the bytes that digits stand for, where they fit a buffer of that length; else why there are none
unfoldable pub body_of : ℕ → List ℕ → Result (List ℕ) Why
body_of space digits = cond (is_hex digits) (cond (ltb space (length (pairs digits))) (Err BodyLength) (Ok (pairs digits))) (Err Hex)

unfoldable pub with_body : RtmpTimestamp → (List ℕ → Call) → Result (List ℕ) Why → Asked
with_body clock call (Ok b) = calls clock (call b)
with_body clock call (Err w) = unread w

-- metadata whose encoder's text lies in the line s
unfoldable pub with_metadata : RtmpTimestamp → List ℕ → Result StreamMetadata Why → Asked
with_metadata clock s (Ok m) = calls clock (metadata m s)
with_metadata clock s (Err w) = unread w

-- the text at a place of the line, where there is one
abbrev pub url_at : List ℕ → Option Span → Option Text
url_at s None = None
url_at s (Some at) = Some (stored (text_at s at))

-- the settings that the line s names
unfoldable pub config_of : List ℕ → Settings → ClientSessionConfig
config_of s g =
    record {
      flash_version = stored (text_at s g.flash);
      playback_buffer_length_ms = g.buffer;
      window_ack_size = g.window;
      chunk_size = g.chunk;
      tc_url = url_at s g.url;
    }

-- The line s, which reads as that; `space` is the length of the buffer for bodies.
unfoldable pub asked : ℕ → List ℕ → Line → Asked
asked space s line.Empty = passes
asked space s (line.Bytes clock count) = calls clock (bytes count)
asked space s (line.Msg clock kind time stream at) = with_body clock (message kind time stream) (body_of space (text_at s at))
asked space s (line.Connect clock at) = calls clock (connect (text_at s at))
asked space s (line.Play clock at) = calls clock (play (text_at s at))
asked space s (line.Publish clock at kind) = calls clock (publish (text_at s at) kind)
asked space s (line.StopPlayback clock) = calls clock stop_playback
asked space s (line.StopPublishing clock) = calls clock stop_publishing
asked space s (line.Ping clock) = calls clock ping
asked space s (line.Video clock time droppable at) = with_body clock (λ b. picture b time droppable) (body_of space (text_at s at))
asked space s (line.Audio clock time droppable at) = with_body clock (λ b. sound b time droppable) (body_of space (text_at s at))
asked space s (line.Metadata clock to) = with_metadata clock s (metadata_line s to)
asked space s line.OpenDefault = opens default_config
asked space s (line.Open g) = opens (config_of s g)
asked space s (line.Space n) = lends n

-- the line s by how it was read
abbrev pub asks : ℕ → List ℕ → Result Line Why → Asked
asks space s (Err w) = unread w
asks space s (Ok l) = asked space s l

-- what a line came to, and the session after it
abbrev pub ran : Result Came Why → ClientSession → Ran
ran came s = record { came = came; session = s }

-- a call's answer and session
abbrev pub answered : Called → Ran
answered r = ran (Ok (Answer r.outcome)) r.session

-- what opening answered: the new session, or the old one where it was refused
unfoldable pub opened : ClientSession → Called → Ran
opened s r = cond (is_err r.outcome) (ran (Ok (Answer r.outcome)) s) (answered r)

-- what a line comes to, the session after it, and the lent output as it leaves it
pub record After : Type 0 where
  pub came : Result Came Why
  pub session : ClientSession
  pub output : List ℕ

-- no byte of the output is written
abbrev pub kept : Ran → List ℕ → After
kept r old = record { came = r.came; session = r.session; output = old }

unfoldable pub after : ClientSession → List ℕ → Asked → After
after s old passes = kept (ran (Ok Passed) s) old
after s old (unread w) = kept (ran (Err w) s) old
after s old (lends n) = kept (ran (Ok (Space n)) s) old
after s old (calls clock c) =
    record { came = Ok (Answer (step s clock c old).outcome); session = (step s clock c old).session; output = (step s clock c old).output }
after s old (opens g) = kept (opened s (open_of g)) old

-- the contract: old is the lent output at the start, and exit at the end
pub record Runs (s : ClientSession) (old : List ℕ) (a : Asked) (r : Ran) (exit : List ℕ) : Type 0 where
  pub tells : r.came ≡ (after s old a).came
  pub hands_back : r.session ≡ (after s old a).session
  pub leaves : exit ≡ (after s old a).output
