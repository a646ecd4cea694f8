-- A refusal writes no output byte and keeps the session, except that 4 and 5 close the request under the reply's held number.
-- Assumes nothing.
use Rattle.std.specs.Prelude.{ℕ, ◌≡◌, ◌≢◌, Bool, true, false, ◌||◌, List, eqb, Err, Some, None}
use Rattle.numbers.specs.Numbers.{held}
use Rattle.messages.specs.Incoming.{Command, command, decode}
use Rattle.messages.specs.declared.ids.RtmpTimestamp.{RtmpTimestamp}
use Rattle.messages.specs.declared.ids.StreamNumber.{StreamNumber}
use Rattle.requests.specs.Places.{lookup}
use Rattle.requests.specs.declared.place.Request.{Request}
use Rattle.session.specs.Calls.{Call, message}
use Rattle.session.specs.Numbers.{refusal_number}
use Rattle.session.specs.Step.{Stepped, step}
use Rattle.session.specs.declared.errors.ClientSessionError.{ClientSessionError}
use Rattle.session.specs.declared.record.ClientSession.{ClientSession}

abbrev pub closes : ClientSessionError → Bool
closes e = eqb (refusal_number e) 4 || eqb (refusal_number e) 5

-- the request that was open under n is closed in t, and nothing else of s is changed
pub record Closes (s : ClientSession) (n : ℕ) (t : ClientSession) : Type 0 where
  pub request : Request
  pub open_before : lookup n s.requests.places ≡ Some request
  pub closed_after : lookup n t.requests.places ≡ None
  pub others_stay : (m : ℕ) → m ≢ n → lookup m t.requests.places ≡ lookup m s.requests.places
  pub next_stays : t.requests.next ≡ s.requests.next
  pub config_stays : t.config ≡ s.config
  pub progress_stays : t.progress ≡ s.progress
  pub link_stays : t.link ≡ s.link

-- the call was a reply, and closed the request under its held number
pub data ClosesBy (s : ClientSession) : Call → ClientSession → Type 0 where
  reply :
      (k : ℕ) (time : RtmpTimestamp) (x : StreamNumber) (b : List ℕ) (c : Command) (t : ClientSession) →
      decode k b ≡ command c → Closes s (held c.number) t → ClosesBy s (message k time x b) t

pub record Kept (s : ClientSession) (c : Call) (old : List ℕ) (e : ClientSessionError) (r : Stepped) : Type 0 where
  pub output_stays : r.output ≡ old
  pub session_stays : closes e ≡ false → r.session ≡ s
  pub request_closed : closes e ≡ true → ClosesBy s c r.session

abbrev pub EveryRefusal : Type 0
EveryRefusal =
    (s : ClientSession) (clock : RtmpTimestamp) (c : Call) (old : List ℕ) (e : ClientSessionError) →
    (step s clock c old).outcome ≡ Err e → Kept s c old e (step s clock c old)
