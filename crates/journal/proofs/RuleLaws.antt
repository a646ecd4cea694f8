-- The rule at one more line: each of its answers at `l ∷ j` from what `l` says and the answers at `j`, for every line and every journal. The session's
-- side needs no more than this of the searches.
-- Assumes nothing.
use Prim.Native.Nat.{ℕ}
use native.Mathlib.Omega.{arith}
use mathlib.Core.Path.{◌≡◌, refl, sym}
use mathlib.Core.Logic.{◌≢◌}
use mathlib.Core.Bool.{Bool, true, false, cond, ◌||◌}
use mathlib.Core.List.{◌∷◌}
use Rattle.std.specs.Prelude.{Option, Some, None}
use Rattle.requests.specs.declared.outstanding_transaction.OutstandingTransaction.{OutstandingTransaction}
use Rattle.requests.specs.declared.outstanding_transaction.OutstandingTransaction.TheVariants.{ConnectionRequested, CreateStream}
use Rattle.requests.specs.declared.outstanding_transaction.TransactionPurpose.{TransactionPurpose}
use Rattle.requests.specs.declared.outstanding_transaction.TransactionPurpose.TheVariants.{PlayRequest, PublishRequest}
use Rattle.session.specs.declared.state.ClientState.{ClientState}
use Rattle.session.specs.declared.state.ClientState.TheVariants.{Disconnected, Connected, PlayRequested, Playing, PublishRequested, Publishing}
use Rattle.journal.specs.Lines.{Line, Journal}
use Rattle.journal.specs.Rule.{Said, nothing, asked, resulted, failed, started_play, started_publish, deleted, said, open_by, rule_open, Mark, accepted, grant, stopped, mark_reply, mark_by, mark, Found, found_or, latest, any_since, is_own, requested_stage, running_stage, stage_by, stage_of, rule_stage, grant_in, grant_at, is_deleted, active_of, rule_active, number_found, latest_grant}

-- ---- what a line does to the stage and the active stream, by what it says and what was open

abbrev pub start_play : ClientState → ClientState
start_play Disconnected = Disconnected
start_play Connected = Connected
start_play PlayRequested = Playing
start_play Playing = Playing
start_play PublishRequested = PublishRequested
start_play Publishing = Publishing

abbrev pub start_publish : ClientState → ClientState
start_publish Disconnected = Disconnected
start_publish Connected = Connected
start_publish PlayRequested = PlayRequested
start_publish Playing = Playing
start_publish PublishRequested = Publishing
start_publish Publishing = Publishing

abbrev pub stage_marked : Option Mark → ClientState → ClientState
stage_marked None g = g
stage_marked (Some accepted) g = Connected
stage_marked (Some (grant p x)) g = requested_stage p
stage_marked (Some stopped) g = Connected

abbrev pub active_marked : Option Mark → Option ℕ → Option ℕ
active_marked None a = a
active_marked (Some accepted) a = a
active_marked (Some (grant p x)) a = Some x
active_marked (Some stopped) a = None

unfoldable pub stage_after : Said → (ℕ → Option OutstandingTransaction) → ClientState → ClientState
stage_after nothing was g = g
stage_after (asked n k) was g = g
stage_after (resulted n x) was g = stage_marked (mark_reply x (was n)) g
stage_after (failed n) was g = g
stage_after started_play was g = start_play g
stage_after started_publish was g = start_publish g
stage_after deleted was g = Connected

unfoldable pub active_after : Said → (ℕ → Option OutstandingTransaction) → Option ℕ → Option ℕ
active_after nothing was a = a
active_after (asked n k) was a = a
active_after (resulted n x) was a = active_marked (mark_reply x (was n)) a
active_after (failed n) was a = a
active_after started_play was a = a
active_after started_publish was a = a
active_after deleted was a = None

-- ---- the stage

abbrev grant_stage : TransactionPurpose → Bool → ClientState
grant_stage p b = cond b (running_stage p) (requested_stage p)

-- a line that is no mark: f is what it does to the stage
no-mark : (f : ClientState → ClientState) → f Disconnected ≡ Disconnected → f Connected ≡ Connected → (l : Line)
    → ((p : TransactionPurpose) (b : Bool) → grant_stage p (is_own p (said l) || b) ≡ f (grant_stage p b))
    → (r : Option (Found Mark)) → stage_of (found_or l None r) ≡ f (stage_of r)
unfolding stage_of found_or stage_by any_since
no-mark f d c l g None = sym d
no-mark f d c l g (Some r) = go r.what
  where
    go : (m : Mark) → stage_by m (l ∷ r.since) ≡ f (stage_by m r.since)
    go accepted = sym c
    go (grant p x) = g p (any_since (is_own p) r.since)
    go stopped = sym c

start-play : (p : TransactionPurpose) (b : Bool) → grant_stage p (is_own p started_play || b) ≡ start_play (grant_stage p b)
start-play PlayRequest true = refl
start-play PlayRequest false = refl
start-play (PublishRequest t) true = refl
start-play (PublishRequest t) false = refl

start-publish : (p : TransactionPurpose) (b : Bool) → grant_stage p (is_own p started_publish || b) ≡ start_publish (grant_stage p b)
start-publish PlayRequest true = refl
start-publish PlayRequest false = refl
start-publish (PublishRequest t) true = refl
start-publish (PublishRequest t) false = refl

-- a line that is no Start notice
stage-marked : (l : Line) → ((p : TransactionPurpose) → is_own p (said l) ≡ false) → (x : Option Mark) (r : Option (Found Mark))
    → stage_of (found_or l x r) ≡ stage_marked x (stage_of r)
unfolding stage_of found_or stage_by any_since
stage-marked l q None r = no-mark (λ g. g) refl refl l (λ p b. rw (q p)) r
stage-marked l q (Some accepted) r = refl
stage-marked l q (Some (grant p x)) r = refl
stage-marked l q (Some stopped) r = refl

stage-said : (l : Line) (j : Journal) (w : Said) → said l ≡ w → (r : Option (Found Mark))
    → stage_of (found_or l (mark_by w j) r) ≡ stage_after w (rule_open j) (stage_of r)
unfolding mark_by stage_after
stage-said l j nothing e r = stage-marked l (λ p. rw e) None r
stage-said l j (asked n k) e r = stage-marked l (λ p. rw e) None r
stage-said l j (resulted n x) e r = stage-marked l (λ p. rw e) (mark_reply x (rule_open j n)) r
stage-said l j (failed n) e r = stage-marked l (λ p. rw e) None r
stage-said l j started_play e r = no-mark start_play refl refl l (λ p b. rw e (start-play p b)) r
stage-said l j started_publish e r = no-mark start_publish refl refl l (λ p b. rw e (start-publish p b)) r
stage-said l j deleted e r = stage-marked l (λ p. rw e) (Some stopped) r

pub stage-more : (l : Line) (j : Journal) → rule_stage (l ∷ j) ≡ stage_after (said l) (rule_open j) (rule_stage j)
unfolding rule_stage latest mark
stage-more l j = stage-said l j (said l) refl (latest mark j)

-- ---- the active stream

-- a line that is no stop
active-marked : (l : Line) → is_deleted (said l) ≡ false → (x : Option Mark) → x ≢ Some stopped → (r : Option (Found ℕ))
    → active_of (found_or l (grant_in x) r) ≡ active_marked x (active_of r)
unfolding active_of found_or any_since
active-marked l q None h None = refl
active-marked l q None h (Some r) = rw q
active-marked l q (Some accepted) h None = refl
active-marked l q (Some accepted) h (Some r) = rw q
active-marked l q (Some (grant p x)) h r = refl
active-marked l q (Some stopped) h r = absurd (h refl)

reply-marked : (x : Option ℕ) (o : Option OutstandingTransaction) → mark_reply x o ≢ Some stopped
reply-marked x None = λ e. let z : ◌≡◌ {A = ℕ} 0 1 = cc in omega arith
reply-marked x (Some ConnectionRequested) = λ e. let z : ◌≡◌ {A = ℕ} 0 1 = cc in omega arith
reply-marked None (Some (CreateStream p)) = λ e. let z : ◌≡◌ {A = ℕ} 0 1 = cc in omega arith
reply-marked (Some x) (Some (CreateStream p)) = λ e. let z : ◌≡◌ {A = ℕ} 0 1 = cc in omega arith

no_stop : None ≢ Some stopped
no_stop e = let z : ◌≡◌ {A = ℕ} 0 1 = cc in omega arith

active-deleted : (l : Line) → is_deleted (said l) ≡ true → (r : Option (Found ℕ)) → active_of (found_or l None r) ≡ None
unfolding active_of found_or any_since
active-deleted l q None = refl
active-deleted l q (Some r) = rw q

active-said : (l : Line) (j : Journal) (w : Said) → said l ≡ w → (r : Option (Found ℕ))
    → active_of (found_or l (grant_in (mark_by w j)) r) ≡ active_after w (rule_open j) (active_of r)
unfolding mark_by active_after
active-said l j nothing e r = active-marked l (rw e) None no_stop r
active-said l j (asked n k) e r = active-marked l (rw e) None no_stop r
active-said l j (resulted n x) e r = active-marked l (rw e) (mark_reply x (rule_open j n)) (reply-marked x (rule_open j n)) r
active-said l j (failed n) e r = active-marked l (rw e) None no_stop r
active-said l j started_play e r = active-marked l (rw e) None no_stop r
active-said l j started_publish e r = active-marked l (rw e) None no_stop r
active-said l j deleted e r = active-deleted l (rw e) r

pub active-more : (l : Line) (j : Journal) → rule_active (l ∷ j) ≡ active_after (said l) (rule_open j) (rule_active j)
unfolding rule_active latest grant_at mark
active-more l j = active-said l j (said l) refl (latest grant_at j)

-- an active stream is the latest grant's
active-grant : (r : Option (Found ℕ)) (x : ℕ) → active_of r ≡ Some x → number_found r ≡ Some x
unfolding active_of
active-grant None x h = h
active-grant (Some r) x h = go (any_since is_deleted r.since) h
  where
    go : (b : Bool) → cond b None (Some r.what) ≡ Some x → Some r.what ≡ Some x
    go true e = let z : ◌≡◌ {A = ℕ} 0 1 = cc in absurd (omega arith)
    go false e = e

pub active-latest : (j : Journal) (x : ℕ) → rule_active j ≡ Some x → latest_grant j ≡ Some x
unfolding rule_active latest_grant
active-latest j x h = active-grant (latest grant_at j) x h

-- ---- the open requests

pub open_more : (l : Line) (j : Journal) (n : ℕ) → rule_open (l ∷ j) n ≡ open_by (said l) n (rule_open j n)
unfolding rule_open
open_more l j n = refl
