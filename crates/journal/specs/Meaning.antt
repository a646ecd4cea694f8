-- What the rule's searches mean: document 01's sentences, one to a line, over the places at which lines stand in a journal and with no search in them.
-- `proofs/Adequacy.antt` shows that all of it holds of every journal.
-- Assumes nothing.
use Rattle.std.specs.Prelude.{ℕ, ◌≡◌, ◌⊎◌, ◌≢◌, Bool, true, Option, Some, None}
use mathlib.Core.List.{List, ◌∷◌, ◌++◌, Memᴰ}
use Rattle.requests.specs.declared.outstanding_transaction.OutstandingTransaction.{OutstandingTransaction}
use Rattle.requests.specs.declared.outstanding_transaction.TransactionPurpose.{TransactionPurpose}
use Rattle.session.specs.declared.state.ClientState.TheVariants.{Disconnected, Connected}
use Rattle.journal.specs.Lines.{Line, Journal, Each}
use Rattle.journal.specs.Rule.{Said, nothing, asked, resulted, failed, started_play, started_publish, deleted, said, Mark, accepted, grant, stopped, mark, grant_at, is_own, is_deleted, requested_stage, running_stage, rule_stage, rule_active, rule_open, latest_grant}

-- "the latest line that is": it stands in the journal, and no later line is one, each judged by the lines before it
pub record Latest {A : Type 0} (is : Line → Journal → Option A) (j : Journal) (a : A) : Type 0 where
  pub since : List Line
  pub line : Line
  pub before : Journal
  pub stands : j ≡ since ++ (line ∷ before)
  pub found : is line before ≡ Some a
  pub no_later : Each (λ l between. is l (between ++ (line ∷ before)) ≡ None) since

-- "none": no line of the journal is
abbrev pub Never : {A : Type 0} → (Line → Journal → Option A) → Journal → Type 0
Never is j = Each (λ l before. is l before ≡ None) j

-- "its own Start notice came since", "such a stop came since"
pub record Came (is : Said → Bool) (since : List Line) : Type 0 where
  pub line : Line
  pub among : Memᴰ line since
  pub says : is (said line) ≡ true

-- the held number of a `_result` or an `_error`
abbrev pub reply_number : Said → Option ℕ
reply_number nothing = None
reply_number (asked n k) = None
reply_number (resulted n x) = Some n
reply_number (failed n) = Some n
reply_number started_play = None
reply_number started_publish = None
reply_number deleted = None

-- "a request line that wasn't turned away gave it and no later `_result` or `_error` line has that held number"
pub record Unanswered (j : Journal) (n : ℕ) (k : OutstandingTransaction) : Type 0 where
  pub since : List Line
  pub line : Line
  pub before : Journal
  pub stands : j ≡ since ++ (line ∷ before)
  pub gave : said line ≡ asked n k
  pub no_reply : (l : Line) → Memᴰ l since → reply_number (said l) ≢ Some n

pub record Means (j : Journal) : Type 0 where
  -- "Find the latest journal line ... that is a `_result` to an open connect, a grant, or a stop that sent deleteStream."
  pub search : Never mark j ⊎ ((m : Mark) × Latest mark j m)
  -- "None: Disconnected."
  pub at_first : Never mark j → rule_stage j ≡ Disconnected
  -- "Reply or stop: Connected."
  pub reply : Latest mark j accepted → rule_stage j ≡ Connected
  pub stop : Latest mark j stopped → rule_stage j ≡ Connected
  -- "Grant: the requested stage, or the running one if its own Start notice came since."
  pub requested : (p : TransactionPurpose) (x : ℕ) (w : Latest mark j (grant p x)) → (Came (is_own p) w.since → ⊥) → rule_stage j ≡ requested_stage p
  pub running : (p : TransactionPurpose) (x : ℕ) (w : Latest mark j (grant p x)) → Came (is_own p) w.since → rule_stage j ≡ running_stage p
  -- "The active stream is the latest grant's number, absent if there is none or such a stop came since."
  pub grant_search : Never grant_at j ⊎ ((x : ℕ) × Latest grant_at j x)
  pub active : (x : ℕ) (w : Latest grant_at j x) → (Came is_deleted w.since → ⊥) → rule_active j ≡ Some x
  pub no_grant : Never grant_at j → rule_active j ≡ None
  pub stop_came : (x : ℕ) (w : Latest grant_at j x) → Came is_deleted w.since → rule_active j ≡ None
  -- the latest grant's number, as demand 3 names it
  pub the_grant : (x : ℕ) → Latest grant_at j x → latest_grant j ≡ Some x
  -- "A number is open if a request line that wasn't turned away gave it and no later `_result` or `_error` line has that held number."
  pub is_open : (n : ℕ) (k : OutstandingTransaction) → Unanswered j n k → rule_open j n ≢ None
  -- and with "the kind and purpose it was asked for"; otherwise it isn't open
  pub asked_for : (n : ℕ) (k : OutstandingTransaction) → rule_open j n ≡ Some k → Unanswered j n k
