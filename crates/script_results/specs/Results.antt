-- Result lines: document 01, "Program `card`".
-- Assumes nothing.
use Rattle.std.specs.Prelude.{ℕ, Bool, cond, List, [], ◌∷◌, ◌++◌, Result, Ok, Err}
use Rattle.octets.specs.Compare.{ascii, part}
use Rattle.session.specs.Numbers.{refusal_number, stage_number, event_place}
use Rattle.session.specs.declared.errors.ClientSessionError.{ClientSessionError}
use Rattle.session.specs.declared.events.ClientSessionEvent.{ClientSessionEvent}
use Rattle.session.specs.declared.events.ClientSessionEvent.TheVariants.{ConnectionRequestAccepted}
use Rattle.session.specs.declared.state.ClientState.{ClientState}
use Rattle.session.specs.declared.result.Packet.{Packet}
use Rattle.session.specs.declared.result.ClientSessionResult.{ClientSessionResult}
use Rattle.session.specs.declared.result.ClientSessionResult.TheVariants.{OutboundResponse, RaisedEvent, UnhandleableMessageReceived}
use Rattle.session.specs.declared.result.Outcome.{Outcome}
use Rattle.session.specs.declared.result.Outcome.TheVariants.{Nothing, One, Two, Accepted, Pinged}
use Rattle.script_results.specs.Decimal.{shown}
use Rattle.script_results.specs.Hex.{hex_text}

-- a number and the byte after it, a tab or a newline
abbrev pub field_text : ℕ → ℕ → List ℕ
field_text n end = shown n ++ (end ∷ [])

-- line number and stage
unfoldable pub head_text : ℕ → ClientState → List ℕ
head_text line stage = field_text line 9 ++ field_text (stage_number stage) 9

unfoldable pub none_line : ℕ → ClientState → List ℕ
none_line line stage = head_text line stage ++ ascii "none\n"

-- a word, and a number
unfoldable pub number_line : ℕ → ClientState → List ℕ → ℕ → List ℕ
number_line line stage word n = (head_text line stage ++ word) ++ field_text n 10

abbrev pub unhandled_line : ℕ → ClientState → ℕ → List ℕ
unhandled_line line stage kind = number_line line stage (ascii "unhandled\t") kind

abbrev pub refused_line : ℕ → ClientState → ClientSessionError → List ℕ
refused_line line stage e = number_line line stage (ascii "refused\t") (refusal_number e)

abbrev pub flag_digit : Bool → ℕ
flag_digit b = cond b 49 48

unfoldable pub flags_text : Packet → List ℕ
flags_text p = flag_digit p.droppable ∷ 9 ∷ flag_digit p.uncompressed ∷ 9 ∷ []

-- an event, up to its values
unfoldable pub event_head : ℕ → ClientState → ClientSessionEvent → List ℕ
event_head line stage e = (head_text line stage ++ ascii "event\t") ++ shown (event_place e)

-- what is open after a line, up to the active stream
unfoldable pub open_head : ℕ → ClientState → List ℕ
open_head line stage = head_text line stage ++ ascii "open\t"

-- type, time and stream
unfoldable pub numbers_text : Packet → List ℕ
numbers_text p = (field_text p.type_id 9 ++ field_text p.time.0 9) ++ field_text p.stream.0 9

-- a message to send, up to its body
unfoldable pub packet_head : ℕ → ClientState → Packet → List ℕ
packet_head line stage p = ((head_text line stage ++ ascii "out\t") ++ numbers_text p) ++ flags_text p

-- a whole line, where the messages' bodies lie in `out`
unfoldable pub result_line : ℕ → ClientState → List ℕ → ClientSessionResult → List ℕ
result_line line stage out (OutboundResponse p) = (packet_head line stage p ++ hex_text (part out p.start p.len)) ++ ascii "\n"
result_line line stage out (RaisedEvent e) = event_head line stage e ++ ascii "\n"
result_line line stage out (UnhandleableMessageReceived kind) = unhandled_line line stage kind

-- the lines of results, one for each in turn
unfoldable pub result_lines : ℕ → ClientState → List ℕ → List ClientSessionResult → List ℕ
result_lines line stage out [] = []
result_lines line stage out (r ∷ rs) = result_line line stage out r ++ result_lines line stage out rs

-- the lines of a call
unfoldable pub outcome_lines : ℕ → ClientState → List ℕ → Result Outcome ClientSessionError → List ℕ
outcome_lines line stage out (Err e) = refused_line line stage e
outcome_lines line stage out (Ok Nothing) = none_line line stage
outcome_lines line stage out (Ok (One a)) = result_lines line stage out (a ∷ [])
outcome_lines line stage out (Ok (Two a b)) = result_lines line stage out (OutboundResponse a ∷ OutboundResponse b ∷ [])
outcome_lines line stage out (Ok (Accepted a b)) = result_lines line stage out (OutboundResponse a ∷ RaisedEvent ConnectionRequestAccepted ∷ OutboundResponse b ∷ [])
outcome_lines line stage out (Ok (Pinged a t)) = result_lines line stage out (OutboundResponse a ∷ [])
