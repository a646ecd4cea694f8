-- Document 01's latest-line rule, sentence by sentence. "The rule is fed the journal's lines alone, never the session record: each call or message
-- with its arguments, and its outcome, that is by which number it was turned away, if it was, and what it sent." So nothing here knows the record,
-- a plan or a step. `specs/Meaning.antt` says the same without the searches.
-- Assumes nothing.
use Rattle.std.specs.Prelude.{ℕ, Bool, true, false, cond, ◌||◌, List, [], ◌∷◌, eqb, drop, Option, Some, None}
use Rattle.numbers.specs.Numbers.{held}
use Rattle.amf0.specs.Lookup.{or_else}
use Rattle.messages.specs.Incoming.{decode, Command as Decoded}
use Rattle.messages.specs.Places.{command_at}
use Rattle.messages.specs.Notice.{code_at}
use Rattle.messages.specs.declared.on_status.OnStatus.{OnStatus}
use Rattle.messages.specs.declared.on_status.OnStatus.TheVariants as status
use Rattle.messages.specs.declared.rtmp_message.Argument.{Argument}
use Rattle.messages.specs.declared.rtmp_message.Argument.TheVariants as argument
use Rattle.messages.specs.declared.rtmp_message.Command.{Command}
use Rattle.messages.specs.declared.rtmp_message.CommandName.{CommandName}
use Rattle.messages.specs.declared.rtmp_message.CommandName.TheVariants as name
use Rattle.bodies.specs.Sent.{command_in, request_number, deleted_stream}
use Rattle.requests.specs.declared.outstanding_transaction.OutstandingTransaction.{OutstandingTransaction}
use Rattle.requests.specs.declared.outstanding_transaction.OutstandingTransaction.TheVariants.{ConnectionRequested, CreateStream}
use Rattle.requests.specs.declared.outstanding_transaction.TransactionPurpose.{TransactionPurpose}
use Rattle.requests.specs.declared.outstanding_transaction.TransactionPurpose.TheVariants.{PlayRequest, PublishRequest}
use Rattle.session.specs.Calls.{Call, connect, play, publish, stop_playback, stop_publishing, ping, picture, sound, metadata, bytes, message, Message}
use Rattle.session.specs.declared.state.ClientState.{ClientState}
use Rattle.session.specs.declared.state.ClientState.TheVariants.{Disconnected, Connected, PlayRequested, Playing, PublishRequested, Publishing}
use Rattle.journal.specs.Lines.{Line, Journal}

-- ---- What a line says by itself

pub data Said : Type 0 where
  nothing : Said
  -- a request line: the number that it gave, and what it was asked for
  asked : ℕ → OutstandingTransaction → Said
  -- a `_result`: its held number, and the stream number if its first argument is a Number
  resulted : ℕ → Option ℕ → Said
  -- an `_error`, or a reply that was turned away by 4 or 5: its held number
  failed : ℕ → Said
  -- a Start notice
  started_play started_publish : Said
  -- a stop that sent deleteStream
  deleted : Said

-- "A request's number is the one in the command sent."
unfoldable pub number_sent : List Message → Option ℕ
number_sent [] = None
number_sent (m ∷ ms) = or_else (request_number m.type_id m.body) (number_sent ms)

abbrev pub asked_for : OutstandingTransaction → Option ℕ → Said
asked_for k None = nothing
asked_for k (Some n) = asked n k

-- "a stop that sent deleteStream"
abbrev pub is_there : Option ℕ → Bool
is_there None = false
is_there (Some x) = true

unfoldable pub delete_sent : List Message → Bool
delete_sent [] = false
delete_sent (m ∷ ms) = is_there (deleted_stream m.type_id m.body) || delete_sent ms

abbrev pub stop_said : List Message → Said
stop_said ms = cond (delete_sent ms) deleted nothing

-- "Grant: a success reply to an open createStream whose first argument is a Number. It gives the stream number", and the number is held
abbrev pub grant_number : Option Argument → Option ℕ
grant_number (Some (argument.Number x)) = Some (held x)
grant_number (Some argument.Object) = None
grant_number (Some argument.Other) = None
grant_number None = None

-- "Notice: an onStatus message with a code"
abbrev pub notice_said : Option OnStatus → Said
notice_said (Some status.PlayStart) = started_play
notice_said (Some status.PublishStart) = started_publish
notice_said (Some (status.Other code)) = nothing
notice_said None = nothing

-- a command that came in the body b
abbrev pub command_said : List ℕ → Command → CommandName → Said
command_said b c name.Result = resulted (held c.number) (grant_number c.first)
command_said b c name.Error = failed (held c.number)
command_said b c name.OnStatus = notice_said (code_at b (drop c.args b))
command_said b c name.Other = nothing

unfoldable pub message_said : List ℕ → Option Decoded → Said
message_said b None = nothing
message_said b (Some c) = command_said b (command_at b c) (command_at b c).name

-- a line that wasn't turned away
unfoldable pub said_well : Call → List Message → Said
said_well (connect app) ms = asked_for ConnectionRequested (number_sent ms)
said_well (play key) ms = asked_for (CreateStream PlayRequest) (number_sent ms)
said_well (publish key t) ms = asked_for (CreateStream (PublishRequest t)) (number_sent ms)
said_well stop_playback ms = stop_said ms
said_well stop_publishing ms = stop_said ms
said_well ping ms = nothing
said_well (picture b t d) ms = nothing
said_well (sound b t d) ms = nothing
said_well (metadata m text) ms = nothing
said_well (bytes n) ms = nothing
said_well (message k t x b) ms = message_said b (command_in (decode k b))

-- of a reply that it closes the number that it has, and nothing else
abbrev pub closes_only : Said → Said
closes_only (resulted n x) = failed n
closes_only (failed n) = failed n
closes_only nothing = nothing
closes_only (asked n k) = nothing
closes_only started_play = nothing
closes_only started_publish = nothing
closes_only deleted = nothing

-- "A turned-away line counts for nothing, except that 4 and 5 close."
abbrev pub said_by : Option ℕ → Call → List Message → Said
said_by None c ms = said_well c ms
said_by (Some k) c ms = cond (eqb k 4 || eqb k 5) (closes_only (said_well c ms)) nothing

unfoldable pub said : Line → Said
said l = said_by l.turned_away l.call l.sent

-- ---- Open requests

-- "A number is open if a request line that wasn't turned away gave it and no later `_result` or `_error` line has that held number."
-- Read from the newest line back, the first line that has the number tells.
unfoldable pub open_by : Said → ℕ → Option OutstandingTransaction → Option OutstandingTransaction
open_by nothing n older = older
open_by (asked m k) n older = cond (eqb m n) (Some k) older
open_by (resulted m x) n older = cond (eqb m n) None older
open_by (failed m) n older = cond (eqb m n) None older
open_by started_play n older = older
open_by started_publish n older = older
open_by deleted n older = older

-- the kind and purpose that the open number n was asked for
unfoldable pub rule_open : Journal → ℕ → Option OutstandingTransaction
rule_open [] n = None
rule_open (l ∷ older) n = open_by (said l) n (rule_open older n)

-- ---- The latest line

-- "a `_result` to an open connect, a grant, or a stop that sent deleteStream"
pub data Mark : Type 0 where
  accepted : Mark
  -- a grant: its purpose and its stream number
  grant : TransactionPurpose → ℕ → Mark
  stopped : Mark

-- a `_result`, by what was open under its number
abbrev pub mark_reply : Option ℕ → Option OutstandingTransaction → Option Mark
mark_reply x None = None
mark_reply x (Some ConnectionRequested) = Some accepted
mark_reply None (Some (CreateStream p)) = None
mark_reply (Some x) (Some (CreateStream p)) = Some (grant p x)

-- "whether it was open at a line is judged by the lines before"
unfoldable pub mark_by : Said → Journal → Option Mark
mark_by nothing older = None
mark_by (asked n k) older = None
mark_by (resulted n x) older = mark_reply x (rule_open older n)
mark_by (failed n) older = None
mark_by started_play older = None
mark_by started_publish older = None
mark_by deleted older = Some stopped

unfoldable pub mark : Line → Journal → Option Mark
mark l older = mark_by (said l) older

-- "Find the latest journal line ... that is": what was found, and the lines since
pub record Found (A : Type 0) : Type 0 where
  pub what : A
  pub since : List Line

unfoldable pub found_or : {A : Type 0} → Line → Option A → Option (Found A) → Option (Found A)
found_or l (Some a) older = Some (record { what = a; since = [] })
found_or l None None = None
found_or l None (Some r) = Some (record { what = r.what; since = l ∷ r.since })

unfoldable pub latest : {A : Type 0} → (Line → Journal → Option A) → Journal → Option (Found A)
latest is [] = None
latest is (l ∷ older) = found_or l (is l older) (latest is older)

-- "came since"
unfoldable pub any_since : (Said → Bool) → List Line → Bool
any_since is [] = false
any_since is (l ∷ ls) = is (said l) || any_since is ls

-- ---- The stage

-- "its own Start notice"
abbrev pub is_own : TransactionPurpose → Said → Bool
is_own PlayRequest started_play = true
is_own (PublishRequest t) started_play = false
is_own PlayRequest started_publish = false
is_own (PublishRequest t) started_publish = true
is_own p nothing = false
is_own p (asked n k) = false
is_own p (resulted n x) = false
is_own p (failed n) = false
is_own p deleted = false

abbrev pub requested_stage : TransactionPurpose → ClientState
requested_stage PlayRequest = PlayRequested
requested_stage (PublishRequest t) = PublishRequested

abbrev pub running_stage : TransactionPurpose → ClientState
running_stage PlayRequest = Playing
running_stage (PublishRequest t) = Publishing

-- "None: Disconnected. Reply or stop: Connected. Grant: the requested stage, or the running one if its own Start notice came since."
unfoldable pub stage_by : Mark → List Line → ClientState
stage_by accepted since = Connected
stage_by stopped since = Connected
stage_by (grant p x) since = cond (any_since (is_own p) since) (running_stage p) (requested_stage p)

unfoldable pub stage_of : Option (Found Mark) → ClientState
stage_of None = Disconnected
stage_of (Some r) = stage_by r.what r.since

unfoldable pub rule_stage : Journal → ClientState
rule_stage j = stage_of (latest mark j)

-- ---- The active stream

abbrev pub grant_in : Option Mark → Option ℕ
grant_in None = None
grant_in (Some accepted) = None
grant_in (Some (grant p x)) = Some x
grant_in (Some stopped) = None

-- a grant, with its stream number
unfoldable pub grant_at : Line → Journal → Option ℕ
grant_at l older = grant_in (mark l older)

-- "such a stop"
abbrev pub is_deleted : Said → Bool
is_deleted nothing = false
is_deleted (asked n k) = false
is_deleted (resulted n x) = false
is_deleted (failed n) = false
is_deleted started_play = false
is_deleted started_publish = false
is_deleted deleted = true

-- "The active stream is the latest grant's number, absent if there is none or such a stop came since."
unfoldable pub active_of : Option (Found ℕ) → Option ℕ
active_of None = None
active_of (Some r) = cond (any_since is_deleted r.since) None (Some r.what)

unfoldable pub rule_active : Journal → Option ℕ
rule_active j = active_of (latest grant_at j)

-- the latest grant's number, whether or not a stop came since
abbrev pub number_found : Option (Found ℕ) → Option ℕ
number_found None = None
number_found (Some r) = Some r.what

unfoldable pub latest_grant : Journal → Option ℕ
latest_grant j = number_found (latest grant_at j)
