-- Whole runs from the default settings, as rows of one table: the calls, each with the clock and the space that it is given, and how the run ends.
-- `proofs/Runs.antt` has the theorem that each row holds, by computation, and that each run is a trace.
-- Assumes nothing.
use Rattle.std.specs.Prelude.{ℕ, Bool, true, false, cond, List, [], ◌∷◌, ◌++◌, map, replicate, Result, Ok, Err, Option, Some, None}
use Prim.Native.String.{String}
use Rattle.octets.specs.Compare.{ascii}
use Rattle.numbers.specs.Numbers.{number_of}
use Rattle.amf0.specs.Value.{number, text, object, null, end, prop, Values, nil, cons}
use Rattle.amf0.specs.Encode.{encode_values}
use Rattle.messages.specs.declared.ids.RtmpTimestamp.{RtmpTimestamp}
use Rattle.messages.specs.declared.ids.StreamNumber.{StreamNumber}
use Rattle.messages.specs.declared.publish_request_type.PublishRequestType.TheVariants.{Live}
use Rattle.bodies.specs.Bodies.{connect_body, delete_stream_body, publish_body}
use Rattle.requests.specs.declared.outstanding_transaction.OutstandingTransaction.{OutstandingTransaction}
use Rattle.session.specs.Calls.{Call, connect, play, publish, stop_playback, stop_publishing, ping, picture, bytes, message, Message, plain, on_stream}
use Rattle.session.specs.Numbers.{event_place}
use Rattle.session.specs.declared.errors.ClientSessionError.{ClientSessionError}
use Rattle.session.specs.declared.events.ClientSessionEvent.TheVariants.{ConnectionRequestAccepted}
use Rattle.session.specs.Record.{default_config, open_of}
use Rattle.session.specs.Step.{step, Stepped}
use Rattle.session.specs.declared.record.ClientSession.{ClientSession}
use Rattle.session.specs.declared.result.ClientSessionResult.{ClientSessionResult}
use Rattle.session.specs.declared.result.ClientSessionResult.TheVariants.{OutboundResponse, RaisedEvent, UnhandleableMessageReceived}
use Rattle.session.specs.declared.result.Outcome.{Outcome}
use Rattle.session.specs.declared.result.Outcome.TheVariants.{Nothing, One, Two, Accepted, Pinged}
use Rattle.session.specs.declared.state.ClientState.{ClientState}
use Rattle.session.specs.declared.state.ClientState.TheVariants.{Disconnected, Connected, Playing, PublishRequested, Publishing}
use Rattle.journal.specs.Lines.{Journal}
use Rattle.journal.specs.Rule.{rule_stage, rule_active, rule_open}
use Rattle.journal.specs.Trace.{line_of}

-- ---- running

-- a call, the clock, and how long an output it is lent
pub record Input : Type 0 where
  pub clock : ℕ
  pub space : ℕ
  pub call : Call

pub record Ran : Type 0 where
  pub session : ClientSession
  pub journal : Journal
  pub last : Result Outcome ClientSessionError

abbrev pub start : Ran
start = record { session = (open_of default_config).session; journal = []; last = (open_of default_config).outcome }

abbrev pub ran_by : Ran → Call → Stepped → Ran
ran_by r c t = record { session = t.session; journal = line_of c t.outcome t.output ∷ r.journal; last = t.outcome }

unfoldable pub run : Ran → List Input → Ran
run r [] = r
run r (i ∷ is) = run (ran_by r i.call (step r.session (record { 0 = i.clock }) i.call (replicate i.space 0))) is

-- ---- how a run ends: what the rule works out of its journal; the refusals, the latest first; and what the last call sent and raised

pub record End : Type 0 where
  pub stage : ClientState
  pub active : Option ℕ
  -- those of the numbers 1 to 4 that are open
  pub numbers : List ℕ
  pub away : List (Option ℕ)
  pub sent : List Message
  -- an event's place in events.rs
  pub raised : List ℕ

abbrev pub is_open : Option OutstandingTransaction → Bool
is_open None = false
is_open (Some k) = true

abbrev pub open_among : Journal → List ℕ → List ℕ
open_among j [] = []
open_among j (n ∷ ns) = cond (is_open (rule_open j n)) (n ∷ open_among j ns) (open_among j ns)

abbrev pub last_sent : Journal → List Message
last_sent [] = []
last_sent (l ∷ before) = l.sent

abbrev pub event : ClientSessionResult → List ℕ
event (OutboundResponse p) = []
event (RaisedEvent e) = event_place e ∷ []
event (UnhandleableMessageReceived t) = []

abbrev pub events : Result Outcome ClientSessionError → List ℕ
events (Err e) = []
events (Ok Nothing) = []
events (Ok (One a)) = event a
events (Ok (Two a b)) = []
events (Ok (Accepted a b)) = event_place ConnectionRequestAccepted ∷ []
events (Ok (Pinged a t)) = []

abbrev pub end_of : Ran → End
end_of r =
    record {
      stage = rule_stage r.journal;
      active = rule_active r.journal;
      numbers = open_among r.journal (1 ∷ 2 ∷ 3 ∷ 4 ∷ []);
      away = map (λ l. l.turned_away) r.journal;
      sent = last_sent r.journal;
      raised = events r.last;
    }

-- ---- the table

pub record Row : Type 0 where
  pub calls : List Input
  pub ends : End

-- most calls are made at clock 0 with 300 bytes of space
abbrev pub plainly : Call → Input
plainly c = record { clock = 0; space = 300; call = c }

abbrev pub time : ℕ → RtmpTimestamp
time n = record { 0 = n }

abbrev pub stream : ℕ → StreamNumber
stream n = record { 0 = n }

-- a message of that type on stream 0; a command under a Number's pattern
abbrev pub comes : ℕ → List ℕ → Input
comes k b = plainly (message k (time 0) (stream 0) b)

abbrev pub command_body : String → ℕ → Values → List ℕ
command_body name n args = encode_values (cons (text (ascii name)) (cons (number n) (cons null args)))

abbrev pub command : String → ℕ → Values → Input
command name n args = comes 20 (command_body name n args)

-- `_result` under the number n; a grant of the stream x; a notice
abbrev pub result : ℕ → Input
result n = command "_result" (number_of n) nil

abbrev pub grants : ℕ → ℕ → Input
grants n x = command "_result" (number_of n) (cons (number (number_of x)) nil)

abbrev pub notice : String → Input
notice code = command "onStatus" (number_of 0) (cons (object (prop (ascii "code") (text (ascii code)) end)) nil)

abbrev pub connects : Input
connects = plainly (connect (ascii "app"))

abbrev pub plays : Input
plays = plainly (play (ascii "key"))

abbrev pub publishes : Input
publishes = plainly (publish (ascii "key") Live)

abbrev pub shows : Input
shows = plainly (picture (0x17 ∷ 0x01 ∷ []) (time 40) true)

-- connected under number 1; publishing on stream 6; playing on stream 5 with a second connect open under number 2
abbrev pub connected : List Input
connected = connects ∷ result 1 ∷ []

abbrev pub publishing : List Input
publishing = connected ++ (publishes ∷ grants 2 6 ∷ notice "NetStream.Publish.Start" ∷ [])

abbrev pub playing : List Input
playing = connects ∷ connects ∷ result 1 ∷ plays ∷ grants 3 5 ∷ notice "NetStream.Play.Start" ∷ []

abbrev pub passes : ℕ → List (Option ℕ)
passes n = replicate n None

-- in turn: nothing sent and nothing raised
abbrev pub silently : ClientState → Option ℕ → List ℕ → List (Option ℕ) → End
silently g a ns away = record { stage = g; active = a; numbers = ns; away = away; sent = []; raised = [] }

abbrev pub sending : ClientState → Option ℕ → List ℕ → List (Option ℕ) → Message → End
sending g a ns away m = record { stage = g; active = a; numbers = ns; away = away; sent = m ∷ []; raised = [] }

abbrev pub raising : ClientState → Option ℕ → List ℕ → List (Option ℕ) → ℕ → End
raising g a ns away e = record { stage = g; active = a; numbers = ns; away = away; sent = []; raised = e ∷ [] }

-- window size and chunk size of the default settings, with the event between them
abbrev pub accepting : ClientState → Option ℕ → List ℕ → List (Option ℕ) → End
accepting g a ns away =
    record {
      stage = g;
      active = a;
      numbers = ns;
      away = away;
      sent =
          plain 5 (time 0) (0x00 ∷ 0x26 ∷ 0x25 ∷ 0xa0 ∷ [])
          ∷ record { type_id = 1; time = time 0; stream = stream 0; droppable = false; uncompressed = true; body = 0x00 ∷ 0x00 ∷ 0x10 ∷ 0x00 ∷ [] }
          ∷ [];
      raised = 0 ∷ [];
    }

abbrev pub row : List Input → End → Row
row is e = record { calls = is; ends = e }

abbrev pub rows : List Row
rows =
    row (connects ∷ []) (sending Disconnected None (1 ∷ []) (passes 1) (plain 20 (time 0) (connect_body 1 (ascii "app") (ascii "WIN 23,0,0,207") false [])))
    ∷ row connected (accepting Connected None [] (passes 2))
    -- a picture goes out on its stream, with its bytes and its time; then a stop
    ∷ row (publishing ++ (shows ∷ []))
    (sending Publishing (Some 6) [] (passes 6)
    (record { type_id = 9; time = time 40; stream = stream 6; droppable = true; uncompressed = false; body = 0x17 ∷ 0x01 ∷ [] }))
    ∷ row (publishing ++ (plainly stop_publishing ∷ [])) (sending Connected None [] (passes 6) (on_stream 20 (time 0) (stream 6) (delete_stream_body 6)))
    -- a picture before the Start notice, and before anything
    ∷ row (connected ++ (publishes ∷ grants 2 6 ∷ shows ∷ [])) (silently PublishRequested (Some 6) [] (Some 2 ∷ passes 4))
    ∷ row (shows ∷ []) (silently Disconnected None [] (Some 2 ∷ []))
    -- a second connect reply while Playing keeps the active stream. Starred: a stop at Connected is an empty success
    ∷ row playing (raising Playing (Some 5) (2 ∷ []) (passes 6) 2)
    ∷ row (playing ++ (result 2 ∷ plainly stop_playback ∷ [])) (silently Connected (Some 5) [] (passes 8))
    -- a second createStream reply while Playing is granted
    ∷ row (connected ++ (plays ∷ publishes ∷ grants 2 1 ∷ notice "NetStream.Play.Start" ∷ grants 3 2 ∷ []))
    (sending PublishRequested (Some 2) [] (passes 7) (on_stream 20 (time 0) (stream 2) (publish_body (ascii "key") Live)))
    -- a picture that comes is an event on the active stream, nothing on another, and refused while Publishing
    ∷ row (playing ++ (plainly (message 9 (time 33) (stream 5) []) ∷ [])) (raising Playing (Some 5) (2 ∷ []) (passes 7) 5)
    ∷ row (playing ++ (plainly (message 9 (time 33) (stream 6) []) ∷ [])) (silently Playing (Some 5) (2 ∷ []) (passes 7))
    ∷ row (publishing ++ (plainly (message 9 (time 33) (stream 6) []) ∷ [])) (silently Publishing (Some 6) [] (Some 2 ∷ passes 5))
    -- 5 and 4 close the request, and 12 doesn't
    ∷ row (connected ++ (publishes ∷ result 2 ∷ [])) (silently Connected None [] (Some 5 ∷ passes 3))
    ∷ row (connected ++ (publishes ∷ command "_error" (number_of 2) nil ∷ [])) (silently Connected None [] (Some 4 ∷ passes 3))
    ∷ row (connects ∷ record { clock = 0; space = 7; call = (result 1).call } ∷ []) (silently Disconnected None (1 ∷ []) (Some 12 ∷ passes 1))
    -- Starred: reply 1.9 closes request 1, and a second reply to it is unknown
    ∷ row (connects ∷ command "_result" 0x3ffe_6666_6666_6666 nil ∷ result 1 ∷ []) (raising Connected None [] (passes 3) 8)
    -- Starred: peer size 2,147,483,647 passes, 2,147,483,648 is 7
    ∷ row (comes 1 (0x7f ∷ 0xff ∷ 0xff ∷ 0xff ∷ []) ∷ []) (silently Disconnected None [] (passes 1))
    ∷ row (comes 1 (0x80 ∷ 0x00 ∷ 0x00 ∷ 0x00 ∷ []) ∷ []) (silently Disconnected None [] (Some 7 ∷ []))
    -- a reply of type 17 counts like one of type 20; a NaN grants stream 0; a second Start notice is refused
    ∷ row (connects ∷ comes 17 (0x00 ∷ command_body "_result" (number_of 1) nil) ∷ []) (accepting Connected None [] (passes 2))
    ∷ row (connected ++ (publishes ∷ command "_result" (number_of 2) (cons (number 0x7ff8_0000_0000_0000) nil) ∷ []))
    (sending PublishRequested (Some 0) [] (passes 4) (on_stream 20 (time 0) (stream 0) (publish_body (ascii "key") Live)))
    ∷ row (publishing ++ (notice "NetStream.Publish.Start" ∷ [])) (silently Publishing (Some 6) [] (Some 2 ∷ passes 5))
    -- our ping carries the clock, and the peer's is answered with its time
    ∷ row (record { clock = 9; space = 6; call = ping } ∷ []) (sending Disconnected None [] (passes 1) (plain 4 (time 9) (0x00 ∷ 0x06 ∷ 0x00 ∷ 0x00 ∷ 0x00 ∷ 0x09 ∷ [])))
    ∷ row (comes 4 (0x00 ∷ 0x06 ∷ 0x00 ∷ 0x00 ∷ 0x00 ∷ 0x07 ∷ []) ∷ [])
    (sending Disconnected None [] (passes 1) (plain 4 (time 0) (0x00 ∷ 0x07 ∷ 0x00 ∷ 0x00 ∷ 0x00 ∷ 0x07 ∷ [])))
    -- document 01's whole case: a window doesn't apply to the count that brought it
    ∷ row (plainly (bytes 10) ∷ comes 5 (0x00 ∷ 0x00 ∷ 0x00 ∷ 0x04 ∷ []) ∷ record { clock = 7; space = 4; call = bytes 4 } ∷ [])
    (sending Disconnected None [] (passes 3) (plain 3 (time 7) (0x00 ∷ 0x00 ∷ 0x00 ∷ 0x04 ∷ [])))
    -- past 4,294,967,295 the sum has reached the window, and its low 32 bits are sent
    ∷ row (comes 5 (0xff ∷ 0xff ∷ 0xff ∷ 0xff ∷ []) ∷ plainly (bytes 4294967294) ∷ plainly (bytes 3) ∷ [])
    (sending Disconnected None [] (passes 3) (plain 3 (time 0) (0x00 ∷ 0x00 ∷ 0x00 ∷ 0x01 ∷ [])))
    ∷ []
