-- What each of the caller's calls comes to, before 13 and 12 are looked at: the refusals in document 01's order, then results and a session.
-- Assumes nothing.
use Rattle.std.specs.Prelude.{ℕ, ◌+◌, ◌%◌, ◌^◌, Bool, true, false, cond, not, List, [], ◌∷◌, length, nat_le, nat_lt, is_some, Option, Some, None}
use Rattle.messages.specs.Numbers.{type_number, acknowledgement, user_control, amf0_command}
use Rattle.messages.specs.declared.ids.RtmpTimestamp.{RtmpTimestamp}
use Rattle.messages.specs.declared.ids.StreamNumber.{StreamNumber}
use Rattle.messages.specs.declared.rtmp_message.UserControlEvent.TheVariants.{PingRequest}
use Rattle.bodies.specs.Bodies.{connect_body, create_stream_body, delete_stream_body, control_body, word_body}
use Rattle.requests.specs.Texts.{fits, text_of}
use Rattle.requests.specs.Table.{spent, eight_open, asked}
use Rattle.requests.specs.declared.outstanding_transaction.OutstandingTransaction.{OutstandingTransaction}
use Rattle.session.specs.Record.{url_of, with_progress, with_requests, with_counts}
use Rattle.session.specs.Calls.{Message, plain, on_stream, sends, Results, nothing, one, pinged}
use Rattle.session.specs.declared.errors.ClientSessionError.{ClientSessionError}
use Rattle.session.specs.declared.errors.ClientSessionError.TheVariants.{SessionInInvalidState, NoKnownActiveStreamIdWhenRequired, Length, EightOpen, Spent}
use Rattle.session.specs.declared.record.ClientSession.{ClientSession}
use Rattle.session.specs.declared.state.ClientState.{ClientState}
use Rattle.session.specs.declared.state.ClientState.TheVariants.{Disconnected, Connected, PlayRequested, Playing, PublishRequested, Publishing}

-- turned away with the session kept; turned away with a request closed (4 and 5); results and the session after
pub data Plan : Type 0 where
  refuse : ClientSessionError → Plan
  close : ClientSessionError → ClientSession → Plan
  go : Results → ClientSession → Plan

-- a refusal with its condition
pub record Check : Type 0 where
  pub when : Bool
  pub says : ClientSessionError

-- the first refusal whose condition holds, and else the plan
unfoldable pub in_order : List Check → Plan → Plan
in_order [] p = p
in_order (c ∷ cs) p = cond c.when (refuse c.says) (in_order cs p)

-- the stages, one by one and in pairs
abbrev pub is_disconnected : ClientState → Bool
is_disconnected Disconnected = true
is_disconnected Connected = false
is_disconnected PlayRequested = false
is_disconnected Playing = false
is_disconnected PublishRequested = false
is_disconnected Publishing = false

abbrev pub is_connected : ClientState → Bool
is_connected Disconnected = false
is_connected Connected = true
is_connected PlayRequested = false
is_connected Playing = false
is_connected PublishRequested = false
is_connected Publishing = false

abbrev pub is_play : ClientState → Bool
is_play Disconnected = false
is_play Connected = false
is_play PlayRequested = true
is_play Playing = true
is_play PublishRequested = false
is_play Publishing = false

abbrev pub is_publish : ClientState → Bool
is_publish Disconnected = false
is_publish Connected = false
is_publish PlayRequested = false
is_publish Playing = false
is_publish PublishRequested = true
is_publish Publishing = true

abbrev pub is_publishing : ClientState → Bool
is_publishing Disconnected = false
is_publishing Connected = false
is_publishing PlayRequested = false
is_publishing Playing = false
is_publishing PublishRequested = false
is_publishing Publishing = true

-- refusal 2 unless the stage is one of those that the test is true of
abbrev pub unless_stage : (ClientState → Bool) → ClientSession → Check
unless_stage at s = record { when = not (at s.progress.state); says = SessionInInvalidState s.progress.state }

-- refusal 9: a text; a body
abbrev pub if_long : List ℕ → Check
if_long t = record { when = not (fits t); says = Length }

abbrev pub if_large : List ℕ → Check
if_large b = record { when = nat_lt 16777215 (length b); says = Length }

-- refusals 11 and 10
abbrev pub if_spent : ClientSession → Check
if_spent s = record { when = spent s.requests; says = Spent }

abbrev pub if_eight_open : ClientSession → Check
if_eight_open s = record { when = eight_open s.requests; says = EightOpen }

-- the bodies of requests under the next number
abbrev pub connect_next : ClientSession → List ℕ → List ℕ
connect_next s app =
    connect_body s.requests.next app (text_of s.config.flash_version) (is_some s.config.tc_url) (url_of s.config.tc_url)

abbrev pub create_next : ClientSession → List ℕ
create_next s = create_stream_body s.requests.next

module _ (s : ClientSession) (clock : RtmpTimestamp) where
  -- a request: the first check is the call's own, then its text, a number and a place
  unfoldable pub request : Check → OutstandingTransaction → List ℕ → List ℕ → Plan
  request own kind t body =
      in_order (own ∷ if_long t ∷ if_spent s ∷ if_eight_open s ∷ [])
      (go (one (sends (plain (type_number amf0_command) clock body))) (with_requests s (asked s.requests kind t)))

  -- a stop at its own two stages
  abbrev pub stopped : Option StreamNumber → Plan
  stopped None = go nothing (with_progress s Connected None)
  stopped (Some x) = go (one (sends (on_stream (type_number amf0_command) clock x (delete_stream_body x.0)))) (with_progress s Connected None)

  unfoldable pub stop : (ClientState → Bool) → Plan
  stop own = cond (own s.progress.state) (stopped s.progress.active) (go nothing s)

  -- at Publishing and on the active stream: the check is of what the caller gave, and the message is on that stream
  abbrev pub published_on : Check → (StreamNumber → Message) → Option StreamNumber → Plan
  published_on given message None = refuse NoKnownActiveStreamIdWhenRequired
  published_on given message (Some x) = in_order (given ∷ []) (go (one (sends (message x))) s)

  unfoldable pub published : Check → (StreamNumber → Message) → Plan
  published given message = in_order (unless_stage is_publishing s ∷ []) (published_on given message s.progress.active)

  unfoldable pub ping_plan : Plan
  ping_plan = go (pinged (plain (type_number user_control) clock (control_body (PingRequest clock))) clock) s

  -- byte counts: all enter a total that wraps; once a window is set also a pending count
  abbrev pub counted : ℕ → ℕ → ClientSession
  counted n pending = with_counts s pending ((s.link.total + n) % 2 ^ 64)

  -- pending reaches the window: an Acknowledgement of its low 32 bits
  abbrev pub counted_by : ℕ → Option ℕ → Plan
  counted_by n None = go nothing (counted n s.link.pending)
  counted_by n (Some w) =
      cond (nat_le w (s.link.pending + n))
      (go (one (sends (plain (type_number acknowledgement) clock (word_body ((s.link.pending + n) % 2 ^ 32))))) (counted n 0))
      (go nothing (counted n (s.link.pending + n)))

  unfoldable pub count : ℕ → Plan
  count n = counted_by n s.link.window
