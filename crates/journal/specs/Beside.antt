-- What holds beside demand 3 over the same traces: the session stays sound, the numbers of requests rise by 1, and the acknowledgements add up to
-- the bytes.
-- Assumes nothing.
use Rattle.std.specs.Prelude.{ℕ, ◌+◌, ◌%◌, ◌^◌, ◌≡◌, Bool, true, false, cond, ◌&&◌, ◌||◌, [], ◌∷◌, Option, Some, None}
use Rattle.session.specs.declared.record.ClientSession.{ClientSession}
use Rattle.session_laws.specs.Numbered.{asks}
use Rattle.session_laws.specs.Sound.{Sound}
use Rattle.session_laws.specs.Acknowledged.{sum, sets_window, counts, is_set}
use Rattle.journal.specs.Lines.{Line, Journal, Each}
use Rattle.journal.specs.Rule.{number_sent}

-- so refusal 13 never meets it
pub record SoundSession (s : ClientSession) (j : Journal) : Type 0 where
  pub sound : Sound s

-- ---- Numbers

-- not turned away
abbrev pub passed : Option ℕ → Bool
passed None = true
passed (Some k) = false

-- how many numbers a line gave, which is 1 of a request that wasn't turned away and else 0; and how many were given
abbrev pub gave : Line → ℕ
gave l = cond (passed l.turned_away) (asks l.call) 0

unfoldable pub given_in : Journal → ℕ
given_in [] = 0
given_in (l ∷ before) = given_in before + gave l

-- "Numbers for requests start at 1 and rise by 1": each is one more than the requests before it that weren't turned away
abbrev pub NumberRises : Line → Journal → Type 0
NumberRises l before = gave l ≡ 1 → number_sent l.sent ≡ Some (given_in before + 1)

pub record Numbered (s : ClientSession) (j : Journal) : Type 0 where
  pub each : Each NumberRises j
  pub due : s.requests.next ≡ given_in j + 1

-- ---- Bytes

-- the numbers of all acknowledgements that were sent
unfoldable pub acknowledged_in : Journal → ℕ
acknowledged_in [] = 0
acknowledged_in (l ∷ before) = sum l.sent + acknowledged_in before

-- whether a window was set
unfoldable pub window_in : Journal → Bool
window_in [] = false
window_in (l ∷ before) = cond (passed l.turned_away) (window_in before || sets_window l.call) (window_in before)

-- the bytes counted since the first window
unfoldable pub counted_in : Journal → ℕ
counted_in [] = 0
counted_in (l ∷ before) = counted_in before + cond (passed l.turned_away && window_in before) (counts l.call) 0

-- "Modulo 2^32, the numbers of all acknowledgements plus pending equal the bytes counted since the first window."
pub record Acknowledged (s : ClientSession) (j : Journal) : Type 0 where
  pub sums : (acknowledged_in j + s.link.pending) % 2 ^ 32 ≡ counted_in j % 2 ^ 32
  pub window : is_set s.link.window ≡ window_in j
