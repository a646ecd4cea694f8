-- Every call does what its line says.
-- Assumes nothing.
use mathlib.Core.Path.{refl}
use mathlib.Core.Bool.{true, false}
use mathlib.Core.List.{[], ◌∷◌}
use Rattle.amf0.specs.Places.{stretch}
use Rattle.messages.specs.Incoming.{decode}
use Rattle.messages.specs.declared.ids.RtmpTimestamp.{RtmpTimestamp}
use Rattle.requests.specs.declared.outstanding_transaction.OutstandingTransaction.TheVariants.{ConnectionRequested, CreateStream}
use Rattle.requests.specs.declared.outstanding_transaction.TransactionPurpose.TheVariants.{PlayRequest, PublishRequest}
use Rattle.session.specs.Calls.{Call, connect, play, publish, stop_playback, stop_publishing, ping, picture, sound, metadata, bytes, message}
use Rattle.session.specs.Outcomes.{in_turn, sent_by}
use Rattle.session.specs.Plan.{is_connected, is_play, is_publish, unless_stage, if_long, if_large, connect_next, create_next, ping_plan}
use Rattle.session.specs.Step.{unless_disconnected, plan}
use Rattle.session.specs.declared.record.ClientSession.{ClientSession}
use Rattle.session_laws.specs.Sound.{Sound}
use Rattle.journal.specs.Rule.{said_well, message_said}
use Rattle.bodies.specs.Sent.{command_in}
use Rattle.journal.proofs.Good.{no_picture, carries-none, heard, Good, view_of, good_order, silent}
use Rattle.journal.proofs.CallerGood.{good-request, good-stop, play_streams, publish-streams, good-published, one-picture, good-count}
use Rattle.journal.proofs.MessageGood.{good-message}

pub good : (s : ClientSession) (clock : RtmpTimestamp) (c : Call) → Sound s → Good s (view_of c) (plan s clock c)
unfolding plan said_well ping_plan sent_by in_turn no_picture
good s clock (connect app) h =
    good-request s clock (unless_disconnected s) ConnectionRequested app (connect_next s app) h refl
good s clock (play key) h =
    good-request s clock (unless_stage is_connected s) (CreateStream PlayRequest) key (create_next s) h refl
good s clock (publish key t) h =
    good-request s clock (unless_stage is_connected s) (CreateStream (PublishRequest t)) key (create_next s) h refl
good s clock stop_playback h = good-stop s clock is_play h play_streams
good s clock stop_publishing h = good-stop s clock is_publish h publish-streams
good s clock ping h = silent s _ _ refl refl refl
good s clock (picture b t d) h = good-published s clock (if_large b) _ true h refl (λ x q. one-picture s x _ q refl)
good s clock (sound b t d) h = good-published s clock (if_large b) _ false h refl (λ x q. carries-none s false _ refl)
good s clock (metadata m text) h = good-published s clock (if_long (stretch text m.encoder)) _ false h refl (λ x q. carries-none s false _ refl)
good s clock (bytes n) h = good-count s clock n
good s clock (message k t x b) h =
    good_order s (heard (message_said b (command_in (decode k b)))) (if_large b ∷ []) _ refl λ q.
    good-message s clock b k t x (decode k b)
