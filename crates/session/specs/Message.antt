-- What a message that came comes to, by what its body says.
-- Assumes nothing.
use Rattle.std.specs.Prelude.{ℕ, Bool, true, false, cond, List, [], ◌∷◌, drop, ◌==◌, nat_lt, Option, Some, None, Result, Ok, Err}
use Rattle.octets.specs.Compare.{ascii}
use Rattle.numbers.specs.Numbers.{held}
use Rattle.amf0.specs.Lookup.{properties_at}
use Rattle.amf0.specs.Places.{text_of_property}
use Rattle.amf0.specs.declared.read.Malformed.{Malformed}
use Rattle.messages.specs.Notice.{code_at}
use Rattle.messages.specs.Metadata.{metadata_at}
use Rattle.messages.specs.Numbers.{type_number, set_chunk_size, user_control, window_size, audio, video, amf0_command}
use Rattle.messages.specs.declared.ids.RtmpTimestamp.{RtmpTimestamp}
use Rattle.messages.specs.declared.ids.StreamNumber.{StreamNumber}
use Rattle.messages.specs.declared.on_status.OnStatus.{OnStatus}
use Rattle.messages.specs.declared.on_status.OnStatus.TheVariants as status
use Rattle.messages.specs.declared.rtmp_message.Argument.{Argument}
use Rattle.messages.specs.declared.rtmp_message.Argument.TheVariants as argument
use Rattle.messages.specs.declared.rtmp_message.Command.{Command}
use Rattle.messages.specs.declared.rtmp_message.CommandName.{CommandName}
use Rattle.messages.specs.declared.rtmp_message.CommandName.TheVariants as name
use Rattle.messages.specs.declared.rtmp_message.DataMessage.{DataMessage}
use Rattle.messages.specs.declared.rtmp_message.DataMessage.TheVariants as said
use Rattle.messages.specs.declared.rtmp_message.RtmpMessage.{RtmpMessage}
use Rattle.messages.specs.declared.rtmp_message.RtmpMessage.TheVariants as message
use Rattle.messages.specs.declared.rtmp_message.UserControlEvent.{UserControlEvent}
use Rattle.messages.specs.declared.rtmp_message.UserControlEvent.TheVariants.{StreamBegin, StreamEof, StreamDry, SetBufferLength, StreamIsRecorded, PingRequest, PingResponse}
use Rattle.bodies.specs.Bodies.{play_body, publish_body, control_body, word_body}
use Rattle.requests.specs.Texts.{text_of}
use Rattle.requests.specs.Places.{lookup}
use Rattle.requests.specs.Table.{closed}
use Rattle.requests.specs.declared.outstanding_transaction.OutstandingTransaction.TheVariants.{ConnectionRequested, CreateStream}
use Rattle.requests.specs.declared.outstanding_transaction.OutstandingTransaction.{OutstandingTransaction}
use Rattle.requests.specs.declared.outstanding_transaction.TransactionPurpose.{TransactionPurpose}
use Rattle.requests.specs.declared.outstanding_transaction.TransactionPurpose.TheVariants.{PlayRequest, PublishRequest}
use Rattle.requests.specs.declared.place.Request.{Request}
use Rattle.requests.specs.declared.text.Text.{Text}
use Rattle.session.specs.Record.{with_progress, with_requests, with_link}
use Rattle.session.specs.Calls.{plain, on_stream, sends, raises, unhandled, Results, nothing, one, two, accepts}
use Rattle.session.specs.Plan.{Plan, refuse, close, go, in_order, is_play, unless_stage}
use Rattle.session.specs.declared.errors.ClientSessionError.TheVariants.{CreateStreamFailed, CreateStreamResponseHadNoStreamNumber, InvalidOnStatusArguments, InvalidMaxChunkSize, MalformedBody}
use Rattle.session.specs.declared.events.ClientSessionEvent.{ClientSessionEvent}
use Rattle.session.specs.declared.events.ClientSessionEvent.TheVariants.{ConnectionRequestRejected, PlaybackRequestAccepted, PublishRequestAccepted, StreamMetadataReceived, VideoDataReceived, AudioDataReceived, UnhandleableAmf0Command, UnknownTransactionResultReceived, UnhandleableOnStatusCode, AcknowledgementReceived, PingResponseReceived}
use Rattle.session.specs.declared.record.ClientSession.{ClientSession}
use Rattle.session.specs.declared.state.ClientState.{ClientState}
use Rattle.session.specs.declared.state.ClientState.TheVariants.{Disconnected, Connected, PlayRequested, Playing, PublishRequested, Publishing}

abbrev pub is_play_requested : ClientState → Bool
is_play_requested Disconnected = false
is_play_requested Connected = false
is_play_requested PlayRequested = true
is_play_requested Playing = false
is_play_requested PublishRequested = false
is_play_requested Publishing = false

abbrev pub is_publish_requested : ClientState → Bool
is_publish_requested Disconnected = false
is_publish_requested Connected = false
is_publish_requested PlayRequested = false
is_publish_requested Playing = false
is_publish_requested PublishRequested = true
is_publish_requested Publishing = false

abbrev pub is_active : Option StreamNumber → StreamNumber → Bool
is_active None x = false
is_active (Some a) x = a.0 == x.0

-- sound's type where it is that, and else a picture's
abbrev pub media_type : ℕ → ℕ
media_type k = cond (k == type_number audio) (type_number audio) (type_number video)

-- a reply that no open request waits for: raw number, object and arguments; a command that the session doesn't read
abbrev pub unknown_reply : Command → ClientSessionEvent
unknown_reply c = UnknownTransactionResultReceived c.number c.object c.args

abbrev pub other_command : Command → ClientSessionEvent
other_command c = UnhandleableAmf0Command c.name_at c.number c.object c.args

-- the stream's number, if the first argument is a Number
abbrev pub stream_number : Option Argument → Option StreamNumber
stream_number (Some (argument.Number x)) = Some (record { 0 = held x })
stream_number (Some argument.Object) = None
stream_number (Some argument.Other) = None
stream_number None = None

-- the stage that a grant gives
abbrev pub requested_stage : TransactionPurpose → ClientState
requested_stage PlayRequest = PlayRequested
requested_stage (PublishRequest t) = PublishRequested

module _ (s : ClientSession) (clock : RtmpTimestamp) (b : List ℕ) where
  -- the session with the request under n closed, at a stage and with an active stream
  abbrev pub after : ℕ → ClientState → Option StreamNumber → ClientSession
  after n g a = with_progress (with_requests s (closed s.requests n)) g a

  abbrev pub after_closing : ℕ → ClientSession
  after_closing n = with_requests s (closed s.requests n)

  -- `_result` to an open connect: Connected, the active stream kept
  abbrev pub accepted : ℕ → Plan
  accepted n =
      go (accepts
      (plain (type_number window_size) clock (word_body s.config.window_ack_size))
      (record { type_id = type_number set_chunk_size; time = record { 0 = 0 }; stream = record { 0 = 0 }; droppable = false; uncompressed = true; body = word_body s.config.chunk_size }))
      (after n Connected s.progress.active)

  -- Grant (document 01): what goes out on the stream x, with the request's own key
  abbrev pub grant_sends : TransactionPurpose → Text → StreamNumber → Results
  grant_sends PlayRequest key x =
      two
      (plain (type_number user_control) clock (control_body (SetBufferLength x s.config.playback_buffer_length_ms)))
      (on_stream (type_number amf0_command) clock x (play_body (text_of key)))
  grant_sends (PublishRequest t) key x = one (sends (on_stream (type_number amf0_command) clock x (publish_body (text_of key) t)))

  -- `_result` to an open createStream, by the stream's number
  abbrev pub granted : ℕ → TransactionPurpose → Text → Option StreamNumber → Plan
  granted n p key (Some x) = go (grant_sends p key x) (after n (requested_stage p) (Some x))
  granted n p key None = close CreateStreamResponseHadNoStreamNumber (after_closing n)

  -- `_result` to an open request, by its kind
  abbrev pub result_of : Command → ℕ → OutstandingTransaction → Text → Plan
  result_of c n ConnectionRequested t = accepted n
  result_of c n (CreateStream p) t = granted n p t (stream_number c.first)

  -- `_error` to an open request
  abbrev pub error_of : Command → ℕ → OutstandingTransaction → Plan
  error_of c n ConnectionRequested =
      go (one (raises (ConnectionRequestRejected (text_of_property b (ascii "description") (properties_at (drop c.args b)))))) (after_closing n)
  error_of c n (CreateStream p) = close CreateStreamFailed (after_closing n)

  -- by the request that is open under the held number, if one is
  abbrev pub result_to : Command → ℕ → Option Request → Plan
  result_to c n None = go (one (raises (unknown_reply c))) s
  result_to c n (Some q) = result_of c n q.kind q.text

  abbrev pub error_to : Command → ℕ → Option Request → Plan
  error_to c n None = go (one (raises (unknown_reply c))) s
  error_to c n (Some q) = error_of c n q.kind

  -- a notice, by its code
  abbrev pub noticed : Option OnStatus → Plan
  noticed (Some status.PlayStart) =
      in_order (unless_stage is_play_requested s ∷ []) (go (one (raises PlaybackRequestAccepted)) (with_progress s Playing s.progress.active))
  noticed (Some status.PublishStart) =
      in_order (unless_stage is_publish_requested s ∷ []) (go (one (raises PublishRequestAccepted)) (with_progress s Publishing s.progress.active))
  noticed (Some (status.Other code)) = go (one (raises (UnhandleableOnStatusCode code))) s
  noticed None = refuse InvalidOnStatusArguments

  abbrev pub command_of : Command → CommandName → Plan
  command_of c name.Result = result_to c (held c.number) (lookup (held c.number) s.requests.places)
  command_of c name.Error = error_to c (held c.number) (lookup (held c.number) s.requests.places)
  command_of c name.OnStatus = noticed (code_at b (drop c.args b))
  command_of c name.Other = go (one (raises (other_command c))) s

  -- an event of a message on the active stream; on another stream nothing
  abbrev pub if_active : StreamNumber → ClientSessionEvent → Plan
  if_active x e = cond (is_active s.progress.active x) (go (one (raises e)) s) (go nothing s)

  -- pictures and sound in: refusal 2 unless PlayRequested or Playing
  abbrev pub media_in : StreamNumber → ClientSessionEvent → Plan
  media_in x e = in_order (unless_stage is_play s ∷ []) (if_active x e)

  abbrev pub data_in : StreamNumber → DataMessage → Plan
  data_in x (said.OnMetaData p) = if_active x (StreamMetadataReceived (metadata_at b (drop p b)))
  data_in x said.Other = go nothing s

  abbrev pub control_in : UserControlEvent → Plan
  control_in (PingRequest t) = go (one (sends (plain (type_number user_control) clock (control_body (PingResponse t))))) s
  control_in (PingResponse t) = go (one (raises (PingResponseReceived t))) s
  control_in (StreamBegin x) = go nothing s
  control_in (StreamEof x) = go nothing s
  control_in (StreamDry x) = go nothing s
  control_in (SetBufferLength x n) = go nothing s
  control_in (StreamIsRecorded x) = go nothing s

  -- a window applies from the next count on
  abbrev pub window_in : ℕ → Plan
  window_in n = go nothing (with_link s (record { chunk = s.link.chunk; window = Some n; pending = s.link.pending; total = s.link.total }))

  abbrev pub chunk_in : ℕ → Plan
  chunk_in n =
      in_order (record { when = nat_lt 2147483647 n; says = InvalidMaxChunkSize } ∷ [])
      (go nothing (with_link s (record { chunk = n; window = s.link.window; pending = s.link.pending; total = s.link.total })))

  -- a message of type k at that time on the stream x, by what its body says
  unfoldable pub on_message : ℕ → RtmpTimestamp → StreamNumber → Result RtmpMessage Malformed → Plan
  on_message k t x (Err e) = refuse MalformedBody
  on_message k t x (Ok message.Unknown) = go (one (unhandled k)) s
  on_message k t x (Ok (message.Abort n)) = go (one (unhandled k)) s
  on_message k t x (Ok (message.SetPeerBandwidth n l)) = go (one (unhandled k)) s
  on_message k t x (Ok (message.Acknowledgement n)) = go (one (raises (AcknowledgementReceived n))) s
  on_message k t x (Ok (message.Amf0Command c)) = command_of c c.name
  on_message k t x (Ok (message.Amf0Data d)) = data_in x d
  on_message k t x (Ok message.AudioData) = media_in x (AudioDataReceived t)
  on_message k t x (Ok message.VideoData) = media_in x (VideoDataReceived t)
  on_message k t x (Ok (message.SetChunkSize n)) = chunk_in n
  on_message k t x (Ok (message.UserControl e)) = control_in e
  on_message k t x (Ok (message.WindowAcknowledgement n)) = window_in n
