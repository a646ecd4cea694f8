-- A message that comes does what its line says.
-- Assumes nothing.
use Prim.Native.Nat.{ℕ}
use mathlib.Core.Path.{◌≡◌, refl, ap, ◌∙◌}
use mathlib.Core.Bool.{Bool, true, false, cond}
use mathlib.Core.List.{List, [], ◌∷◌}
use lib.Dec.{eqb, ltb}
use lib.ListN.{drop}
use borrow.Author.Tests.{eqb-true}
use Rattle.std.specs.Prelude.{Option, Some, None}
use Rattle.numbers.specs.Numbers.{held}
use Rattle.octets.specs.Parse.{place_of}
use Rattle.messages.specs.Incoming.{Incoming, malformed, set_chunk_size, abort, acknowledgement, window_size, peer_bandwidth, user_control, command, values, audio, video, unknown}
use Rattle.messages.specs.Places.{command_at, data_at, placed}
use Rattle.messages.specs.Notice.{code_at}
use Rattle.messages.specs.declared.ids.RtmpTimestamp.{RtmpTimestamp}
use Rattle.messages.specs.declared.ids.StreamNumber.{StreamNumber}
use Rattle.messages.specs.declared.on_status.OnStatus.{OnStatus}
use Rattle.messages.specs.declared.on_status.OnStatus.TheVariants as status
use Rattle.messages.specs.declared.rtmp_message.Argument.{Argument}
use Rattle.messages.specs.declared.rtmp_message.Argument.TheVariants as argument
use Rattle.messages.specs.declared.rtmp_message.Command.{Command}
use Rattle.messages.specs.declared.rtmp_message.CommandName.{CommandName}
use Rattle.messages.specs.declared.rtmp_message.CommandName.TheVariants as name
use Rattle.messages.specs.declared.rtmp_message.DataMessage.{DataMessage}
use Rattle.messages.specs.declared.rtmp_message.DataMessage.TheVariants as data-said
use Rattle.messages.specs.declared.rtmp_message.UserControlEvent.{UserControlEvent}
use Rattle.messages.specs.declared.rtmp_message.UserControlEvent.TheVariants.{StreamBegin, StreamEof, StreamDry, SetBufferLength, StreamIsRecorded, PingRequest, PingResponse}
use Rattle.bodies.specs.Sent.{command_in}
use Rattle.requests.specs.Places.{lookup}
use Rattle.requests.specs.declared.place.Request.{Request}
use Rattle.requests.specs.Table.{closed}
use Rattle.requests.specs.declared.outstanding_transaction.OutstandingTransaction.{OutstandingTransaction}
use Rattle.requests.specs.declared.outstanding_transaction.OutstandingTransaction.TheVariants.{ConnectionRequested, CreateStream}
use Rattle.requests.specs.declared.outstanding_transaction.TransactionPurpose.{TransactionPurpose}
use Rattle.requests.specs.declared.outstanding_transaction.TransactionPurpose.TheVariants.{PlayRequest, PublishRequest}
use Rattle.requests.specs.declared.text.Text.{Text}
use Rattle.requests.proofs.BoolLaws.{by_cases}
use Rattle.requests.proofs.TableLaws.{closed-open}
use Rattle.session.specs.Outcomes.{in_turn, sent_by}
use Rattle.session.specs.Plan.{is_play, unless_stage}
use Rattle.session.specs.Message.{is_play_requested, is_publish_requested, is_active, after_closing, stream_number, grant_sends, granted, result_of, error_of, result_to, error_to, noticed, command_of, if_active, media_in, data_in, control_in, on_message}
use Rattle.session.specs.Message as session
use Rattle.session.specs.declared.events.ClientSessionEvent.{ClientSessionEvent}
use Rattle.session.specs.declared.errors.ClientSessionError.TheVariants.{InvalidMaxChunkSize}
use Rattle.session.specs.declared.record.ClientSession.{ClientSession}
use Rattle.session_laws.proofs.DecideLaws.{is-play-requested, is-publish-requested}
use Rattle.journal.specs.Rule.{nothing, resulted, failed, started_play, started_publish, open_by, grant_number, notice_said, command_said, message_said, requested_stage}
use Rattle.journal.proofs.RuleLaws.{stage_after, active_after}
use Rattle.journal.proofs.Good.{kind_of, opens, Moves, no_picture, carries-none, heard, Good, good_order, passed, silent}

-- ---- replies

kind-closed : (b : Bool) (o : Option Request) → kind_of (cond b None o) ≡ cond b None (kind_of o)
kind-closed true o = refl
kind-closed false o = refl

module _ (s : ClientSession) (clock : RtmpTimestamp) (b : List ℕ) where
  -- the request under n is closed
  open-closed : (n m : ℕ) → kind_of (lookup m (closed s.requests n).places) ≡ cond (eqb n m) None (opens s m)
  open-closed n m = ap kind_of (closed-open s.requests n m) ∙ kind-closed (eqb n m) (lookup m s.requests.places)

  closes : (n : ℕ) → Moves s (failed n) (after_closing s clock b n)
  unfolding stage_after active_after open_by
  closes n = record { stage_moves = refl; active_moves = refl; open_moves = open-closed n }

  -- a reply to no open request
  not_open : (n m : ℕ) → lookup n s.requests.places ≡ None → opens s m ≡ cond (eqb n m) None (opens s m)
  not_open n m e = by_cases (eqb n m) (λ q. rw q (rw (← eqb-true n m q, e))) (λ q. rw q)

  requested-is : (p : TransactionPurpose) → session.requested_stage p ≡ requested_stage p
  requested-is PlayRequest = refl
  requested-is (PublishRequest t) = refl

  grant-sends : (p : TransactionPurpose) (key : Text) (x : StreamNumber) → no_picture (sent_by (in_turn (grant_sends s clock b p key x))) ≡ true
  unfolding sent_by in_turn no_picture
  grant-sends PlayRequest key x = refl
  grant-sends (PublishRequest t) key x = refl

  good-granted : (n : ℕ) (p : TransactionPurpose) (key : Text) (a : Option Argument) → opens s n ≡ Some (CreateStream p)
      → Good s (heard (resulted n (grant_number a))) (granted s clock b n p key (stream_number a))
  unfolding stage_after active_after open_by
  good-granted n p key (Some (argument.Number x)) e =
      record {
        moves =
            λ i.
            record {
              stage_moves = rw e (requested-is p);
              active_moves = rw e;
              open_moves = open-closed n;
            };
        carries = carries-none s false _ (grant-sends p key (record { 0 = held x }));
      }
  good-granted n p key None e = record { by = refl; moves = closes n }
  good-granted n p key (Some argument.Object) e = record { by = refl; moves = closes n }
  good-granted n p key (Some argument.Other) e = record { by = refl; moves = closes n }

  good-result-of : (c : Command) (n : ℕ) (k : OutstandingTransaction) (t : Text) → opens s n ≡ Some k
      → Good s (heard (resulted n (grant_number c.first))) (result_of s clock b c n k t)
  unfolding stage_after active_after open_by sent_by in_turn no_picture
  good-result-of c n ConnectionRequested t e =
      record {
        moves =
            λ i.
            record {
              stage_moves = rw e;
              active_moves = rw e;
              open_moves = open-closed n;
            };
        carries = carries-none s false _ refl;
      }
  good-result-of c n (CreateStream p) t e = good-granted n p t c.first e

  good_error_of : (c : Command) (n : ℕ) (k : OutstandingTransaction) → Good s (heard (failed n)) (error_of s clock b c n k)
  unfolding sent_by in_turn no_picture
  good_error_of c n ConnectionRequested = record { moves = λ i. closes n; carries = carries-none s false _ refl }
  good_error_of c n (CreateStream p) = record { by = refl; moves = closes n }

  good-result : (c : Command) (n : ℕ) (o : Option Request) → lookup n s.requests.places ≡ o
      → Good s (heard (resulted n (grant_number c.first))) (result_to s clock b c n o)
  unfolding stage_after active_after open_by sent_by in_turn no_picture
  good-result c n None e =
      record {
        moves = λ i. record { stage_moves = rw e; active_moves = rw e; open_moves = λ m. not_open n m e };
        carries = carries-none s false _ refl;
      }
  good-result c n (Some q) e = good-result-of c n q.kind q.text (ap kind_of e)

  good_error : (c : Command) (n : ℕ) (o : Option Request) → lookup n s.requests.places ≡ o
      → Good s (heard (failed n)) (error_to s clock b c n o)
  unfolding stage_after active_after open_by sent_by in_turn no_picture
  good_error c n None e =
      record {
        moves = λ i. record { stage_moves = refl; active_moves = refl; open_moves = λ m. not_open n m e };
        carries = carries-none s false _ refl;
      }
  good_error c n (Some q) e = good_error_of c n q.kind

-- ---- notices

module _ (s : ClientSession) (clock : RtmpTimestamp) (b : List ℕ) where
  good-noticed : (c : Option OnStatus) → Good s (heard (notice_said c)) (noticed s clock b c)
  unfolding stage_after active_after open_by sent_by in_turn no_picture
  good-noticed (Some status.PlayStart) =
      good_order s (heard started_play) (unless_stage is_play_requested s ∷ []) _ refl λ e.
      let g = is-play-requested s.progress.state (passed _ e.0) in
      record {
        moves = λ i. record { stage_moves = rw g; active_moves = refl; open_moves = λ m. refl };
        carries = carries-none s false _ refl;
      }
  good-noticed (Some status.PublishStart) =
      good_order s (heard started_publish) (unless_stage is_publish_requested s ∷ []) _ refl λ e.
      let g = is-publish-requested s.progress.state (passed _ e.0) in
      record {
        moves = λ i. record { stage_moves = rw g; active_moves = refl; open_moves = λ m. refl };
        carries = carries-none s false _ refl;
      }
  good-noticed (Some (status.Other code)) = silent s _ _ refl refl refl
  good-noticed None = refl

  good-command : (c : Command) (n : CommandName) → Good s (heard (command_said b c n)) (command_of s clock b c n)
  unfolding sent_by in_turn no_picture
  good-command c name.Result = good-result s clock b c (held c.number) (lookup (held c.number) s.requests.places) refl
  good-command c name.Error = good_error s clock b c (held c.number) (lookup (held c.number) s.requests.places) refl
  good-command c name.OnStatus = good-noticed (code_at b (drop c.args b))
  good-command c name.Other = silent s _ _ refl refl refl

  -- ---- the other messages

  good_if-active : (x : StreamNumber) (e : ClientSessionEvent) → Good s (heard nothing) (if_active s clock b x e)
  unfolding sent_by in_turn no_picture
  good_if-active x e =
      by_cases (is_active s.progress.active x)
      (λ q. rw q (silent s _ _ refl refl refl))
      (λ q. rw q (silent s _ _ refl refl refl))

  good_media_in : (x : StreamNumber) (e : ClientSessionEvent) → Good s (heard nothing) (media_in s clock b x e)
  good_media_in x e = good_order s (heard nothing) (unless_stage is_play s ∷ []) _ refl λ q. good_if-active x e

  good_data_in : (x : StreamNumber) (d : DataMessage) → Good s (heard nothing) (data_in s clock b x d)
  unfolding sent_by in_turn no_picture
  good_data_in x (data-said.OnMetaData p) = good_if-active x _
  good_data_in x data-said.Other = silent s _ _ refl refl refl

  good_control_in : (e : UserControlEvent) → Good s (heard nothing) (control_in s clock b e)
  unfolding sent_by in_turn no_picture
  good_control_in (PingRequest t) = silent s _ _ refl refl refl
  good_control_in (PingResponse t) = silent s _ _ refl refl refl
  good_control_in (StreamBegin x) = silent s _ _ refl refl refl
  good_control_in (StreamEof x) = silent s _ _ refl refl refl
  good_control_in (StreamDry x) = silent s _ _ refl refl refl
  good_control_in (SetBufferLength x n) = silent s _ _ refl refl refl
  good_control_in (StreamIsRecorded x) = silent s _ _ refl refl refl

  pub good-message : (k : ℕ) (t : RtmpTimestamp) (x : StreamNumber) (i : Incoming)
      → Good s (heard (message_said b (command_in i))) (on_message s clock b k t x (placed b i))
  unfolding on_message placed message_said command_in sent_by in_turn no_picture
  good-message k t x malformed = refl
  good-message k t x (set_chunk_size n) =
      good_order s (heard nothing) (record { when = ltb 2147483647 n; says = InvalidMaxChunkSize } ∷ []) _ refl λ q.
      silent s _ _ refl refl refl
  good-message k t x (abort n) = silent s _ _ refl refl refl
  good-message k t x (acknowledgement n) = silent s _ _ refl refl refl
  good-message k t x (window_size n) = silent s _ _ refl refl refl
  good-message k t x (peer_bandwidth n l) = silent s _ _ refl refl refl
  good-message k t x (user_control e) = good_control_in e
  good-message k t x (command c) = good-command (command_at b c) (command_at b c).name
  good-message k t x (values d) = good_data_in x (data_at (place_of b d.after_first) d.values)
  good-message k t x audio = good_media_in x _
  good-message k t x video = good_media_in x _
  good-message k t x unknown = silent s _ _ refl refl refl
