-- Each call's own contract makes a step of the trace, and opening's its beginning: `a` are the arguments, r is what was returned, x the arguments at
-- exit. A contract that spoke of another call would make none. Of a borrowing call no reading is made for callers, so that its step is said in the logic:
-- in every model, what it ensures entails the step.
-- Assumes nothing.
use mathlib.Core.Path.{◌≡◌}
use mathlib.Core.List.{[], ◌∷◌}
use seplogic.Ra.Ura.{Ura}
use base.Logic.{SProp, ent}
use contract.Lifetimes.{Lfts}
use contract.Monad.{Fun, fact, fact_mono}
use borrow.Fn.Kinds.{Dens, ended_of}
use denote.Triple.Clauses.{AtExit}
use denote.Triple.Entry.{Args}
use types.Logic.{Logic}
use prog.Memory.{Memory}
use prog.Routine.{Routine}
use Rattle.std.specs.Prelude.{Result, Ok}
use Rattle.session.specs.Calls.{connect, play, publish, stop_playback, stop_publishing, ping, picture, sound, metadata, bytes, message}
use Rattle.session.specs.declared.errors.ClientSessionError.{ClientSessionError}
use Rattle.session.specs.declared.record.Called.{Called}
use Rattle.session.specs.declared.result.Outcome.{Outcome}
use Rattle.session.specs.declared.result.Outcome.TheVariants.{Nothing}
use Rattle.session.proofs.record.ClientSession.new.Kinds as new_kinds
use Rattle.session.proofs.record.ClientSession.new.Reads as new
use Rattle.session.proofs.record.ClientSession.request_connection.Kinds as request_connection_kinds
use Rattle.session.proofs.record.ClientSession.request_connection.Reads as request_connection
use Rattle.session.proofs.record.ClientSession.request_playback.Kinds as request_playback_kinds
use Rattle.session.proofs.record.ClientSession.request_playback.Reads as request_playback
use Rattle.session.proofs.record.ClientSession.request_publishing.Kinds as request_publishing_kinds
use Rattle.session.proofs.record.ClientSession.request_publishing.Reads as request_publishing
use Rattle.session.proofs.record.ClientSession.stop_playback.Kinds as stop_playback_kinds
use Rattle.session.proofs.record.ClientSession.stop_playback.Reads as stop_playback
use Rattle.session.proofs.record.ClientSession.stop_publishing.Kinds as stop_publishing_kinds
use Rattle.session.proofs.record.ClientSession.stop_publishing.Reads as stop_publishing
use Rattle.session.proofs.record.ClientSession.send_ping_request.Kinds as send_ping_request_kinds
use Rattle.session.proofs.record.ClientSession.send_ping_request.Reads as send_ping_request
use Rattle.session.proofs.record.ClientSession.publish_video_data.Kinds as publish_video_data_kinds
use Rattle.session.proofs.record.ClientSession.publish_video_data.Reads as publish_video_data
use Rattle.session.proofs.record.ClientSession.publish_audio_data.Kinds as publish_audio_data_kinds
use Rattle.session.proofs.record.ClientSession.publish_audio_data.Reads as publish_audio_data
use Rattle.session.proofs.record.ClientSession.publish_metadata.Kinds as publish_metadata_kinds
use Rattle.session.proofs.record.ClientSession.publish_metadata.Reads as publish_metadata
use Rattle.session.proofs.record.ClientSession.handle_bytes.Kinds as handle_bytes_kinds
use Rattle.session.proofs.record.ClientSession.handle_bytes.Reads as handle_bytes
use Rattle.session.proofs.record.ClientSession.handle_message.Kinds as handle_message_kinds
use Rattle.session.proofs.record.ClientSession.handle_message.Reads as handle_message
use Rattle.borrowing.specs.Borrowed.{request_call}
use Rattle.borrowing.specs.contracts.request as borrowed_request
use Rattle.borrowing.specs.contracts.handle_message as borrowed_message
use Rattle.borrowing.specs.contracts.handle_bytes as borrowed_bytes
use Rattle.journal.specs.Lines.{Journal}
use Rattle.journal.specs.Trace.{line_of, Trace, opened, called, request_borrowed, message_borrowed, bytes_borrowed}

pub opening_step : (κs : Lfts 0) (a : Dens κs new_kinds.ps) (r : Called) (x : AtExit (ended_of 0 new_kinds.ps new_kinds.r) κs)
    → new.Learnt κs a r x → r.outcome ≡ Ok Nothing → Trace r.session []
opening_step κs a r x d o = opened a.0 r d o

pub request_connection_step : (κs : Lfts 2) (a : Dens κs request_connection_kinds.ps) (r : Called) (x : AtExit (ended_of 2 request_connection_kinds.ps request_connection_kinds.r) κs)
    → request_connection.Learnt κs a r x → {j : Journal} → Trace a.0 j → Trace r.session (line_of (connect a.1.1.0.now) r.outcome x.1.1.1.0.now ∷ j)
request_connection_step κs a r x d t = called t _ a.1.0 a.1.1.1.0.now r x.1.1.1.0.now d

pub request_playback_step : (κs : Lfts 2) (a : Dens κs request_playback_kinds.ps) (r : Called) (x : AtExit (ended_of 2 request_playback_kinds.ps request_playback_kinds.r) κs)
    → request_playback.Learnt κs a r x → {j : Journal} → Trace a.0 j → Trace r.session (line_of (play a.1.1.0.now) r.outcome x.1.1.1.0.now ∷ j)
request_playback_step κs a r x d t = called t _ a.1.0 a.1.1.1.0.now r x.1.1.1.0.now d

pub request_publishing_step : (κs : Lfts 2) (a : Dens κs request_publishing_kinds.ps) (r : Called) (x : AtExit (ended_of 2 request_publishing_kinds.ps request_publishing_kinds.r) κs)
    → request_publishing.Learnt κs a r x → {j : Journal} → Trace a.0 j → Trace r.session (line_of (publish a.1.1.0.now a.1.1.1.0) r.outcome x.1.1.1.1.0.now ∷ j)
request_publishing_step κs a r x d t = called t _ a.1.0 a.1.1.1.1.0.now r x.1.1.1.1.0.now d

pub stop_playback_step : (κs : Lfts 1) (a : Dens κs stop_playback_kinds.ps) (r : Called) (x : AtExit (ended_of 1 stop_playback_kinds.ps stop_playback_kinds.r) κs)
    → stop_playback.Learnt κs a r x → {j : Journal} → Trace a.0 j → Trace r.session (line_of (stop_playback) r.outcome x.1.1.0.now ∷ j)
stop_playback_step κs a r x d t = called t _ a.1.0 a.1.1.0.now r x.1.1.0.now d

pub stop_publishing_step : (κs : Lfts 1) (a : Dens κs stop_publishing_kinds.ps) (r : Called) (x : AtExit (ended_of 1 stop_publishing_kinds.ps stop_publishing_kinds.r) κs)
    → stop_publishing.Learnt κs a r x → {j : Journal} → Trace a.0 j → Trace r.session (line_of (stop_publishing) r.outcome x.1.1.0.now ∷ j)
stop_publishing_step κs a r x d t = called t _ a.1.0 a.1.1.0.now r x.1.1.0.now d

pub send_ping_request_step : (κs : Lfts 1) (a : Dens κs send_ping_request_kinds.ps) (r : Called) (x : AtExit (ended_of 1 send_ping_request_kinds.ps send_ping_request_kinds.r) κs)
    → send_ping_request.Learnt κs a r x → {j : Journal} → Trace a.0 j → Trace r.session (line_of (ping) r.outcome x.1.1.0.now ∷ j)
send_ping_request_step κs a r x d t = called t _ a.1.0 a.1.1.0.now r x.1.1.0.now d

pub publish_video_data_step : (κs : Lfts 2) (a : Dens κs publish_video_data_kinds.ps) (r : Called) (x : AtExit (ended_of 2 publish_video_data_kinds.ps publish_video_data_kinds.r) κs)
    → publish_video_data.Learnt κs a r x → {j : Journal} → Trace a.0 j → Trace r.session (line_of (picture a.1.1.0.now a.1.1.1.0 a.1.1.1.1.0) r.outcome x.1.1.1.1.1.0.now ∷ j)
publish_video_data_step κs a r x d t = called t _ a.1.0 a.1.1.1.1.1.0.now r x.1.1.1.1.1.0.now d

pub publish_audio_data_step : (κs : Lfts 2) (a : Dens κs publish_audio_data_kinds.ps) (r : Called) (x : AtExit (ended_of 2 publish_audio_data_kinds.ps publish_audio_data_kinds.r) κs)
    → publish_audio_data.Learnt κs a r x → {j : Journal} → Trace a.0 j → Trace r.session (line_of (sound a.1.1.0.now a.1.1.1.0 a.1.1.1.1.0) r.outcome x.1.1.1.1.1.0.now ∷ j)
publish_audio_data_step κs a r x d t = called t _ a.1.0 a.1.1.1.1.1.0.now r x.1.1.1.1.1.0.now d

pub publish_metadata_step : (κs : Lfts 2) (a : Dens κs publish_metadata_kinds.ps) (r : Called) (x : AtExit (ended_of 2 publish_metadata_kinds.ps publish_metadata_kinds.r) κs)
    → publish_metadata.Learnt κs a r x → {j : Journal} → Trace a.0 j → Trace r.session (line_of (metadata a.1.1.0 a.1.1.1.0.now) r.outcome x.1.1.1.1.0.now ∷ j)
publish_metadata_step κs a r x d t = called t _ a.1.0 a.1.1.1.1.0.now r x.1.1.1.1.0.now d

pub handle_bytes_step : (κs : Lfts 1) (a : Dens κs handle_bytes_kinds.ps) (r : Called) (x : AtExit (ended_of 1 handle_bytes_kinds.ps handle_bytes_kinds.r) κs)
    → handle_bytes.Learnt κs a r x → {j : Journal} → Trace a.0 j → Trace r.session (line_of (bytes a.1.1.0) r.outcome x.1.1.1.0.now ∷ j)
handle_bytes_step κs a r x d t = called t _ a.1.0 a.1.1.1.0.now r x.1.1.1.0.now d

pub handle_message_step : (κs : Lfts 2) (a : Dens κs handle_message_kinds.ps) (r : Called) (x : AtExit (ended_of 2 handle_message_kinds.ps handle_message_kinds.r) κs)
    → handle_message.Learnt κs a r x → {j : Journal} → Trace a.0 j → Trace r.session (line_of (message a.1.1.0 a.1.1.1.0 a.1.1.1.1.0 a.1.1.1.1.1.0.now) r.outcome x.1.1.1.1.1.1.0.now ∷ j)
handle_message_step κs a r x d t = called t _ a.1.0 a.1.1.1.1.1.1.0.now r x.1.1.1.1.1.1.0.now d

-- ---- the borrowing calls

module _ {M : Type 1} {𝓤 : Ura M} (𝓛 : Logic 𝓤) (mem : Memory → SProp 𝓤) (run : Routine → Fun 𝓤) (r : Result Outcome ClientSessionError) {j : Journal} where
  pub borrowed_request_step : (κs : Lfts 3) (a : Args borrowed_request.signature κs) (x : AtExit borrowed_request.ended κs) → Trace a.0.now j
      → ent 𝓤 ((borrowed_request.clauses 𝓛 mem run κs a).ensures tt r x)
      (fact 𝓤 (Trace x.0.now (line_of (request_call a.1.1.0 a.1.1.1.0.now) r x.1.1.1.1.0.now ∷ j)))
  borrowed_request_step κs a x t = fact_mono 𝓤 _ _ (λ d. request_borrowed t _ _ a.1.0 a.1.1.1.1.0.now r _ _ d)

  pub borrowed_message_step : (κs : Lfts 3) (a : Args borrowed_message.signature κs) (x : AtExit borrowed_message.ended κs) → Trace a.0.now j
      → ent 𝓤 ((borrowed_message.clauses 𝓛 mem run κs a).ensures tt r x)
      (fact 𝓤 (Trace x.0.now (line_of (message a.1.1.0 a.1.1.1.0 a.1.1.1.1.0 a.1.1.1.1.1.0.now) r x.1.1.1.1.1.1.0.now ∷ j)))
  borrowed_message_step κs a x t = fact_mono 𝓤 _ _ (λ d. message_borrowed t _ _ _ _ a.1.0 a.1.1.1.1.1.1.0.now r _ _ d)

  pub borrowed_bytes_step : (κs : Lfts 2) (a : Args borrowed_bytes.signature κs) (x : AtExit borrowed_bytes.ended κs) → Trace a.0.now j
      → ent 𝓤 ((borrowed_bytes.clauses 𝓛 mem run κs a).ensures tt r x)
      (fact 𝓤 (Trace x.0.now (line_of (bytes a.1.1.0) r x.1.1.1.0.now ∷ j)))
  borrowed_bytes_step κs a x t = fact_mono 𝓤 _ _ (λ d. bytes_borrowed t _ a.1.0 a.1.1.1.0.now r _ _ d)
