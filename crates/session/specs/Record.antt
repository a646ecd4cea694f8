-- The session record: what refusal 13 asks of it, and opening.
-- Assumes nothing.
use Rattle.std.specs.Prelude.{ℕ, Bool, true, cond, ◌&&◌, List, [], nat_le, Ok, Err, Option, Some, None}
use Rattle.octets.specs.Compare.{ascii}
use Rattle.requests.specs.Texts.{text_of, text_sound, stored}
use Rattle.requests.specs.Table.{none, requests_sound}
use Rattle.requests.specs.declared.table.Requests.{Requests}
use Rattle.requests.specs.declared.text.Text.{Text}
use Rattle.session.specs.declared.config.ClientSessionConfig.{ClientSessionConfig}
use Rattle.session.specs.declared.errors.ClientSessionError.TheVariants.{Length, InvalidMaxChunkSize}
use Rattle.session.specs.declared.record.Called.{Called}
use Rattle.session.specs.declared.record.ClientSession.{ClientSession}
use Rattle.session.specs.declared.record.Link.{Link}
use Rattle.session.specs.declared.result.Outcome.TheVariants.{Nothing}
use Rattle.session.specs.declared.state.ClientState.{ClientState}
use Rattle.session.specs.declared.state.ClientState.TheVariants.{Disconnected}
use Rattle.messages.specs.declared.ids.StreamNumber.{StreamNumber}

-- the Rust's default settings
unfoldable pub default_config : ClientSessionConfig
default_config =
    record {
      flash_version = stored (ascii "WIN 23,0,0,207");
      playback_buffer_length_ms = 2000;
      window_ack_size = 2500000;
      chunk_size = 4096;
      tc_url = None;
    }

-- the texts of the settings; a tcUrl counts if one is configured
abbrev pub url_sound : Option Text → Bool
url_sound None = true
url_sound (Some t) = text_sound t

unfoldable pub texts_sound : ClientSessionConfig → Bool
texts_sound c = text_sound c.flash_version && url_sound c.tc_url

-- the tcUrl's bytes, if one is configured
abbrev pub url_of : Option Text → List ℕ
url_of None = []
url_of (Some t) = text_of t

-- a chunk size that refusal 7 doesn't meet
abbrev pub chunk_sound : ℕ → Bool
chunk_sound n = nat_le n 2147483647

-- a record that refusal 13 doesn't meet
unfoldable pub is_session : ClientSession → Bool
is_session s = (texts_sound s.config && chunk_sound s.config.chunk_size) && requests_sound s.requests

-- a session with these settings at which nothing was asked yet
unfoldable pub fresh : ClientSessionConfig → ClientSession
fresh c =
    record {
      config = c;
      progress = record { state = Disconnected; active = None };
      requests = none;
      link = record { chunk = 128; window = None; pending = 0; total = 0 };
    }

-- Opening: refusal 9, then 7. The record handed back with a refusal is no session, since its settings are what 13 meets.
unfoldable pub open_of : ClientSessionConfig → Called
open_of c =
    cond (texts_sound c)
    (cond (chunk_sound c.chunk_size)
    (record { outcome = Ok Nothing; session = fresh c })
    (record { outcome = Err InvalidMaxChunkSize; session = fresh c }))
    (record { outcome = Err Length; session = fresh c })

-- the record with one group changed
abbrev pub with_progress : ClientSession → ClientState → Option StreamNumber → ClientSession
with_progress s g a = record { config = s.config; progress = record { state = g; active = a }; requests = s.requests; link = s.link }

abbrev pub with_requests : ClientSession → Requests → ClientSession
with_requests s q = record { config = s.config; progress = s.progress; requests = q; link = s.link }

abbrev pub with_link : ClientSession → Link → ClientSession
with_link s l = record { config = s.config; progress = s.progress; requests = s.requests; link = l }

-- with other byte counts
abbrev pub with_counts : ClientSession → ℕ → ℕ → ClientSession
with_counts s pending total = with_link s (record { chunk = s.link.chunk; window = s.link.window; pending = pending; total = total })
