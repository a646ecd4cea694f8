-- Demand 3: a single claim about the whole list of calls.
-- Assumes nothing.
use Rattle.std.specs.Prelude.{ℕ, ◌≡◌, ◌↔◌, ◌≢◌, Bool, true, false, Option, Some, None}
use mathlib.Core.List.{Memᴰ}
use Rattle.requests.specs.declared.outstanding_transaction.OutstandingTransaction.{OutstandingTransaction}
use Rattle.requests.specs.declared.place.Place.{Place}
use Rattle.session.specs.Calls.{Call, connect, play, publish, stop_playback, stop_publishing, ping, picture, sound, metadata, bytes, message, Message}
use Rattle.session.specs.declared.record.ClientSession.{ClientSession}
use Rattle.session.specs.declared.state.ClientState.TheVariants.{Publishing}
use Rattle.journal.specs.Lines.{Line, Journal, Each}
use Rattle.journal.specs.Rule.{rule_stage, rule_active, rule_open, latest_grant}
use Rattle.messages.specs.declared.ids.StreamNumber.{StreamNumber}

abbrev pub is_picture : Call → Bool
is_picture (picture b t d) = true
is_picture (connect app) = false
is_picture (play key) = false
is_picture (publish key t) = false
is_picture stop_playback = false
is_picture stop_publishing = false
is_picture ping = false
is_picture (sound b t d) = false
is_picture (metadata m text) = false
is_picture (bytes n) = false
is_picture (message k t x b) = false

-- a picture among the messages that a line sent: type 9
pub record Picture (l : Line) (m : Message) : Type 0 where
  pub among : Memᴰ m l.sent
  pub type9 : m.type_id ≡ 9

-- what holds of a line and the lines before it
pub record LineHolds (l : Line) (before : Journal) : Type 0 where
  -- "A picture call in the list meets refusal 2 exactly when the rule's stage just before it isn't Publishing."
  pub refusal2 : is_picture l.call ≡ true → (l.turned_away ≡ Some 2) ↔ (rule_stage before ≢ Publishing)
  -- "A picture goes out from a picture call only, and on the rule's active stream, which is then the latest grant's."
  pub from_picture : (m : Message) → Picture l m → is_picture l.call ≡ true
  pub on_active : (m : Message) → Picture l m → rule_active before ≡ Some m.stream.0
  pub on_grant : (m : Message) → Picture l m → latest_grant before ≡ Some m.stream.0
  -- from opening on, the session that each call gets is one, and at Publishing there is an active stream
  pub never13 : l.turned_away ≢ Some 13
  pub never3 : l.turned_away ≢ Some 3

-- the record's active stream, as the rule gives it
abbrev pub active_number : Option StreamNumber → Option ℕ
active_number None = None
active_number (Some x) = Some x.0

-- a place of the record in which a request is open under n
pub record Holds (s : ClientSession) (n : ℕ) (k : OutstandingTransaction) : Type 0 where
  pub place : Place
  pub among : Memᴰ place s.requests.places
  pub is : place.request ≡ Some (record { 0 = n }, k)

-- "After it the stage, active stream and open requests equal those that document 01's latest-line rule works out afresh from the journal alone."
pub record Demand3 (s : ClientSession) (j : Journal) : Type 0 where
  pub stage_equal : s.progress.state ≡ rule_stage j
  pub active_equal : active_number s.progress.active ≡ rule_active j
  -- "as a set of numbers, each with the kind and purpose it was asked for"
  pub open_equal : (n : ℕ) (k : OutstandingTransaction) → Holds s n k ↔ (rule_open j n ≡ Some k)
  pub lines : Each LineHolds j
