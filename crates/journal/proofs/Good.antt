-- What a plan has to do so that its line says what it did to the stage, the active stream and the open requests, and what it may send.
-- Assumes nothing.
use Prim.Native.Nat.{ℕ}
use mathlib.Core.Path.{◌≡◌, refl, sym, ap, ◌∙◌}
use mathlib.Core.Logic.{◌⊎◌, inl, inr}
use mathlib.Core.Bool.{Bool, true, false, cond, not, ◌&&◌, ◌||◌, true≢false}
use mathlib.Core.List.Memᴰ
use mathlib.Core.List.{List, [], ◌∷◌, Memᴰ}
use lib.Dec.{eqb}
use borrow.Author.Tests.{eq-eqb}
use Rattle.std.specs.Prelude.{Option, Some, None}
use Rattle.requests.specs.Places.{lookup}
use Rattle.requests.specs.declared.place.Request.{Request}
use Rattle.requests.specs.declared.outstanding_transaction.OutstandingTransaction.{OutstandingTransaction}
use Rattle.requests.proofs.BoolLaws.{and_left, and_right}
use Rattle.session.specs.Calls.{Call, Message}
use Rattle.session.specs.Numbers.{refusal_number}
use Rattle.session.specs.Outcomes.{in_turn, sent_by}
use Rattle.session.specs.Plan.{Plan, refuse, close, go, Check, in_order}
use Rattle.session.specs.declared.record.ClientSession.{ClientSession}
use Rattle.session_laws.specs.Numbered.{asks}
use Rattle.journal.specs.Rule.{Said, nothing, number_sent, open_by, said_well, closes_only}
use Rattle.journal.specs.Demand.{is_picture, active_number}
use Rattle.journal.proofs.RuleLaws.{stage_after, active_after}

-- ---- the session after a line that says w

abbrev pub kind_of : Option Request → Option OutstandingTransaction
kind_of None = None
kind_of (Some q) = Some q.kind

-- what is open in the record under a number
abbrev pub opens : ClientSession → ℕ → Option OutstandingTransaction
opens s n = kind_of (lookup n s.requests.places)

pub record Moves (s : ClientSession) (w : Said) (after : ClientSession) : Type 0 where
  pub stage_moves : after.progress.state ≡ stage_after w (opens s) s.progress.state
  pub active_moves : active_number after.progress.active ≡ active_after w (opens s) (active_number s.progress.active)
  pub open_moves : (n : ℕ) → opens after n ≡ open_by w n (opens s n)

-- ---- what is sent

-- a picture among the messages is a picture call's, on the active stream
abbrev pub Carries : ClientSession → Bool → List Message → Type 0
Carries s is_one ms = (m : Message) → Memᴰ m ms → m.type_id ≡ 9 → (is_one ≡ true) × (active_number s.progress.active ≡ Some m.stream.0)

unfoldable pub no_picture : List Message → Bool
no_picture [] = true
no_picture (m ∷ ms) = not (eqb m.type_id 9) && no_picture ms

pub carries-none : (s : ClientSession) (is_one : Bool) (ms : List Message) → no_picture ms ≡ true → Carries s is_one ms
unfolding no_picture
carries-none s is_one [] h m i e = absurd (Memᴰ.not-nil i)
carries-none s is_one (x ∷ ms) h m i e =
    go (Memᴰ.cases_cons i) (carries-none s is_one ms (and_right (not (eqb x.type_id 9)) (no_picture ms) h) m)
  where
    go : (m ≡ x) ⊎ Memᴰ m ms → (Memᴰ m ms → m.type_id ≡ 9 → (is_one ≡ true) × (active_number s.progress.active ≡ Some m.stream.0))
        → (is_one ≡ true) × (active_number s.progress.active ≡ Some m.stream.0)
    go (inl q) f =
        let t : eqb x.type_id 9 ≡ true = eq-eqb _ _ (ap (λ y. y.type_id) (sym q) ∙ e) in
        let n : not (eqb x.type_id 9) ≡ true = and_left (not (eqb x.type_id 9)) (no_picture ms) h in
        absurd (true≢false (sym n ∙ ap not t))
    go (inr t) f = f t e

-- ---- plans

-- how a call's line is read that wasn't turned away, by what it sent; whether it is a picture call's; how many numbers it gives
pub record View : Type 0 where
  pub well : List Message → Said
  pub pictures : Bool
  pub asking : ℕ

abbrev pub view_of : Call → View
view_of c = record { well = said_well c; pictures = is_picture c; asking = asks c }

-- a line that says w whatever was sent
abbrev pub heard : Said → View
heard w = record { well = λ ms. w; pictures = false; asking = 0 }

-- the refusals that close a request; those that are never met from opening on; and those that keep the session and can be met
abbrev pub closing : ℕ → Bool
closing k = eqb k 4 || eqb k 5

abbrev pub spared : ℕ → Bool
spared k = not (eqb k 3 || eqb k 13)

abbrev pub mild : ℕ → Bool
mild k = not (closing k) && spared k

-- a request is known to send the number that is due
pub record Goes (s : ClientSession) (v : View) (ms : List Message) (after : ClientSession) : Type 0 where
  pub moves : (v.asking ≡ 1 → number_sent ms ≡ Some s.requests.next) → Moves s (v.well ms) after
  pub carries : Carries s v.pictures ms

pub record Closes (s : ClientSession) (v : View) (k : ℕ) (after : ClientSession) : Type 0 where
  pub by : closing k ≡ true
  pub moves : Moves s (closes_only (v.well [])) after

abbrev pub Good : ClientSession → View → Plan → Type 0
Good s v (refuse e) = mild (refusal_number e) ≡ true
Good s v (close e after) = Closes s v (refusal_number e) after
Good s v (go rs after) = Goes s v (sent_by (in_turn rs)) after

-- the refusals of checks are such, and none of them is met
abbrev pub all_mild : List Check → Bool
all_mild [] = true
all_mild (c ∷ cs) = mild (refusal_number c.says) && all_mild cs

abbrev pub Missed : List Check → Type 0
Missed [] = Unit {0}
Missed (c ∷ cs) = (c.when ≡ false) × Missed cs

-- checks, and the plan that stands after them
pub good_order : (s : ClientSession) (v : View) (cs : List Check) (p : Plan) → all_mild cs ≡ true → (Missed cs → Good s v p) → Good s v (in_order cs p)
unfolding in_order
good_order s v [] p m f = f tt
good_order s v (c ∷ cs) p m f =
    let i = and_left (mild (refusal_number c.says)) (all_mild cs) m in
    let j = and_right (mild (refusal_number c.says)) (all_mild cs) m in
    at c.when refl i (λ e. good_order s v cs p j (λ q. f (e, q)))
  where
    at : (b : Bool) → c.when ≡ b → mild (refusal_number c.says) ≡ true → (c.when ≡ false → Good s v (in_order cs p))
        → Good s v (cond b (refuse c.says) (in_order cs p))
    at true e i g = i
    at false e i g = g e

-- what a check that was passed says
pub passed : (b : Bool) → not b ≡ false → b ≡ true
passed true e = refl
passed false e = absurd (true≢false e)

-- nothing changes that the rule speaks of
pub still : (s after : ClientSession) → after.progress ≡ s.progress → after.requests ≡ s.requests → Moves s nothing after
unfolding stage_after active_after open_by
still s after p q =
    record {
      stage_moves = ap (λ x. x.state) p;
      active_moves = ap (λ x. active_number x.active) p;
      open_moves = λ n. ap (λ x. kind_of (lookup n x.places)) q;
    }

-- and nothing is sent that the rule reads
pub silent : (s after : ClientSession) (ms : List Message) → after.progress ≡ s.progress → after.requests ≡ s.requests
    → no_picture ms ≡ true → Goes s (heard nothing) ms after
silent s after ms p q h = record { moves = λ n. still s after p q; carries = carries-none s false ms h }
