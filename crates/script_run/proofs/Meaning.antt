-- What the definitions mean: lines with a text and with a body, and opening worked out.
-- Assumes nothing.
use Prim.Native.Nat.{ℕ}
use mathlib.Core.Path.{◌≡◌, refl}
use mathlib.Core.Bool.{true, false}
use mathlib.Core.List.{List, [], ◌∷◌}
use Rattle.std.specs.Prelude.{Ok, Err}
use Rattle.octets.specs.Compare.{ascii}
use Rattle.messages.specs.declared.publish_request_type.PublishRequestType.TheVariants.{Live}
use Rattle.session.specs.Calls.{connect, publish, picture}
use Rattle.session.specs.Record.{texts_sound, chunk_sound, fresh, open_of}
use Rattle.session.specs.declared.config.ClientSessionConfig.{ClientSessionConfig}
use Rattle.session.specs.declared.errors.ClientSessionError.TheVariants.{Length, InvalidMaxChunkSize}
use Rattle.session.specs.declared.record.ClientSession.{ClientSession}
use Rattle.session.specs.declared.result.Outcome.TheVariants.{Nothing}
use Rattle.script.specs.Hex.{is_hex, is_digit, pairs, pair_value}
use Rattle.script.specs.Lines.{timestamp}
use Rattle.script.specs.declared.asked.Line.TheVariants as line
use Rattle.script.specs.declared.reasons.Why.TheVariants.{BodyLength}
use Rattle.octets.specs.Span.{span}
use Rattle.script_run.specs.Asked.{unread, calls, opens, body_of, with_body, asked, asks, opened, after}
use Rattle.script_run.specs.declared.told.Came.TheVariants.{Answer}

-- the texts at their places
pub connect-asks : asks 0 (ascii "1\tconnect\tapp") (Ok (line.Connect (timestamp 1) (span 10 3))) ≡ calls (timestamp 1) (connect (ascii "app"))
unfolding asked
connect-asks = refl

pub publish-asks : asks 0 (ascii "1\tpublish\tkey\tlive") (Ok (line.Publish (timestamp 1) (span 10 3) Live)) ≡ calls (timestamp 1) (publish (ascii "key") Live)
unfolding asked
publish-asks = refl

-- a body of one byte, in a buffer of one byte and in an empty one
pub picture-asks : asks 1 (ascii "1\tvideo\t2\t1\taB") (Ok (line.Video (timestamp 1) (timestamp 2) true (span 12 2)))
    ≡ calls (timestamp 1) (picture (171 ∷ []) (timestamp 2) true)
unfolding asked with_body body_of is_hex is_digit pairs pair_value
picture-asks = refl

pub picture_too_long : asks 0 (ascii "1\tvideo\t2\t1\taB") (Ok (line.Video (timestamp 1) (timestamp 2) true (span 12 2))) ≡ unread BodyLength
unfolding asked with_body body_of is_hex is_digit pairs pair_value
picture_too_long = refl

-- a line that opens: the new session and an empty success, or the old session and refusal 9 or 7
module _ (s : ClientSession) (old : List ℕ) (g : ClientSessionConfig) where
  pub opens-new : texts_sound g ≡ true → chunk_sound g.chunk_size ≡ true
      → after s old (opens g) ≡ record { came = Ok (Answer (Ok Nothing)); session = fresh g; output = old }
  unfolding after opened open_of
  opens-new t c = rw (t, c)

  pub opens-no-text : texts_sound g ≡ false → after s old (opens g) ≡ record { came = Ok (Answer (Err Length)); session = s; output = old }
  unfolding after opened open_of
  opens-no-text t = rw t

  pub opens-no_chunk : texts_sound g ≡ true → chunk_sound g.chunk_size ≡ false
      → after s old (opens g) ≡ record { came = Ok (Answer (Err InvalidMaxChunkSize)); session = s; output = old }
  unfolding after opened open_of
  opens-no_chunk t c = rw (t, c)
