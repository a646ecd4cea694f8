-- The rule's searches say what document 01's sentences say (`specs/Meaning.antt`), of every journal.
-- Assumes nothing.
use Prim.Native.Nat.{ℕ}
use native.Mathlib.Omega.{arith}
use mathlib.Core.Path.{◌≡◌, refl, sym, ap, ◌∙◌}
use mathlib.Core.Logic.{◌⊎◌, inl, inr, ◌≢◌}
use mathlib.Core.Bool.{Bool, true, false, cond, ◌||◌, true≢false}
use mathlib.Core.List.Memᴰ
use mathlib.Core.List.{List, [], ◌∷◌, ◌++◌, Memᴰ}
use lib.Dec.{eqb}
use borrow.Author.Tests.{eqb-true, eq-eqb}
use Rattle.std.specs.Prelude.{Option, Some, None}
use Rattle.requests.specs.declared.outstanding_transaction.OutstandingTransaction.{OutstandingTransaction}
use Rattle.journal.specs.Lines.{Line, Journal, Each}
use Rattle.journal.specs.Rule.{Said, nothing, asked, resulted, failed, started_play, started_publish, deleted, said, open_by, rule_open, found_or, latest, any_since, is_own, is_deleted, mark, grant_at, stage_by, stage_of, rule_stage, active_of, rule_active, latest_grant}
use Rattle.journal.specs.Meaning.{Latest, Never, Came, reply_number, Unanswered, Means}
use Rattle.journal.proofs.EachLaws.{each_none, each_more, each_first, each-rest}

-- ---- the latest line that is

module _ {A : Type 0} (is : Line → Journal → Option A) where
  never-found : (j : Journal) → Never is j → latest is j ≡ None
  unfolding latest found_or
  never-found [] n = refl
  never-found (l ∷ j) n = rw (each_first _ l j n, never-found j (each-rest _ l j n))

  found-at : (since : List Line) (line : Line) (before : Journal) (a : A) → is line before ≡ Some a
      → Each (λ l between. is l (between ++ (line ∷ before)) ≡ None) since
      → latest is (since ++ (line ∷ before)) ≡ Some (record { what = a; since = since })
  unfolding latest found_or
  found-at [] line before a f n = rw f
  found-at (l ∷ since) line before a f n = rw (each_first _ l since n, found-at since line before a f (each-rest _ l since n))

  latest-found : (j : Journal) (a : A) (w : Latest is j a) → latest is j ≡ Some (record { what = a; since = w.since })
  latest-found j a w = ap (latest is) w.stands ∙ found-at w.since w.line w.before a w.found w.no_later

  -- the line at the front, and one further back
  front : (l : Line) (j : Journal) (a : A) → is l j ≡ Some a → Latest is (l ∷ j) a
  front l j a e = record { since = []; line = l; before = j; stands = refl; found = e; no_later = each_none _ }

  back : (l : Line) (j : Journal) (a : A) → is l j ≡ None → Latest is j a → Latest is (l ∷ j) a
  back l j a e w =
      record {
        since = l ∷ w.since;
        line = w.line;
        before = w.before;
        stands = ap (λ x. l ∷ x) w.stands;
        found = w.found;
        no_later = each_more _ l w.since (rw (← w.stands) e) w.no_later;
      }

  search-of : (j : Journal) → Never is j ⊎ ((a : A) × Latest is j a)
  search-of [] = inl (each_none _)
  search-of (l ∷ j) = go (is l j) refl (search-of j)
    where
      go : (o : Option A) → is l j ≡ o → Never is j ⊎ ((a : A) × Latest is j a) → Never is (l ∷ j) ⊎ ((a : A) × Latest is (l ∷ j) a)
      go (Some a) e r = inr (a, front l j a e)
      go None e (inl n) = inl (each_more _ l j e n)
      go None e (inr w) = inr (w.0, back l j w.0 e w.1)

-- ---- came since

or_true : (a : Bool) {b : Bool} → b ≡ true → (a || b) ≡ true
or_true true e = refl
or_true false e = e

module _ (is : Said → Bool) where
  came-any : (since : List Line) (l : Line) → Memᴰ l since → is (said l) ≡ true → any_since is since ≡ true
  unfolding any_since
  came-any [] l x'' h = elim x'' [ ]
  came-any (m ∷ since) l (Memᴰ.head e) h = rw (← e, h)
  came-any (m ∷ since) l (Memᴰ.tail t) h = or_true (is (said m)) (came-any since l t h)

  any-came : (since : List Line) → any_since is since ≡ true → Came is since
  unfolding any_since
  any-came [] h = absurd (true≢false (sym h))
  any-came (l ∷ since) h = go (is (said l)) refl h (any-came since)
    where
      go : (b : Bool) → is (said l) ≡ b → (b || any_since is since) ≡ true → (any_since is since ≡ true → Came is since) → Came is (l ∷ since)
      go true e h f = record { line = l; among = Memᴰ.head refl; says = e }
      go false e h f = let w = f h in record { line = w.line; among = Memᴰ.tail w.among; says = w.says }

  none_came : (since : List Line) → (Came is since → ⊥) → any_since is since ≡ false
  none_came since n = go (any_since is since) refl
    where
      go : (b : Bool) → any_since is since ≡ b → any_since is since ≡ false
      go true e = absurd (n (any-came since e))
      go false e = e

-- ---- open requests

no_none : {A : Type 0} (a : A) → Some a ≢ None
no_none a e = let z : ◌≡◌ {A = ℕ} 0 1 = cc in omega arith

-- a line that has no reply to n leaves n open
open_still : (w : Said) (n : ℕ) (o : Option OutstandingTransaction) → reply_number w ≢ Some n → o ≢ None → open_by w n o ≢ None
unfolding open_by
open_still nothing n o h g = g
open_still (asked m k) n o h g = go (eqb m n)
  where
    go : (b : Bool) → cond b (Some k) o ≢ None
    go true = no_none k
    go false = g
open_still (resulted m x) n o h g = go (eqb m n) refl
  where
    go : (b : Bool) → eqb m n ≡ b → cond b None o ≢ None
    go true e = absurd (h (ap Some (eqb-true m n e)))
    go false e = g
open_still (failed m) n o h g = go (eqb m n) refl
  where
    go : (b : Bool) → eqb m n ≡ b → cond b None o ≢ None
    go true e = absurd (h (ap Some (eqb-true m n e)))
    go false e = g
open_still started_play n o h g = g
open_still started_publish n o h g = g
open_still deleted n o h g = g

open-given : (since : List Line) (line : Line) (before : Journal) (n : ℕ) (k : OutstandingTransaction) → said line ≡ asked n k
    → ((l : Line) → Memᴰ l since → reply_number (said l) ≢ Some n) → rule_open (since ++ (line ∷ before)) n ≢ None
unfolding rule_open open_by
open-given [] line before n k e h = rw (e, eq-eqb n n refl) (no_none k)
open-given (l ∷ since) line before n k e h =
    open_still (said l) n _ (h l (Memᴰ.head refl)) (open-given since line before n k e (λ m t. h m (Memᴰ.tail t)))

-- an open number was given by this line, or was open before it and the line is no reply to it
abbrev Either : Said → ℕ → OutstandingTransaction → Option OutstandingTransaction → Type 0
Either w n k o = (w ≡ asked n k) ⊎ ((reply_number w ≢ Some n) × (o ≡ Some k))

silent : (n : ℕ) → None ≢ Some n
silent n e = let z : ◌≡◌ {A = ℕ} 0 1 = cc in omega arith

other-number : (m n : ℕ) → eqb m n ≡ false → Some m ≢ Some n
other-number m n e q = let p : m ≡ n = cc in true≢false (sym (eq-eqb m n p) ∙ e)

open-cases : (w : Said) (n : ℕ) (k : OutstandingTransaction) (o : Option OutstandingTransaction) → open_by w n o ≡ Some k → Either w n k o
unfolding open_by
open-cases nothing n k o h = inr (silent n, h)
open-cases (asked m i) n k o h = go (eqb m n) refl h
  where
    go : (b : Bool) → eqb m n ≡ b → cond b (Some i) o ≡ Some k → Either (asked m i) n k o
    go true e h = inl (let p : m ≡ n = eqb-true m n e in let q : i ≡ k = cc in rw (p, q))
    go false e h = inr (silent n, h)
open-cases (resulted m x) n k o h = go (eqb m n) refl h
  where
    go : (b : Bool) → eqb m n ≡ b → cond b None o ≡ Some k → Either (resulted m x) n k o
    go true e h = let z : ◌≡◌ {A = ℕ} 0 1 = cc in absurd (omega arith)
    go false e h = inr (other-number m n e, h)
open-cases (failed m) n k o h = go (eqb m n) refl h
  where
    go : (b : Bool) → eqb m n ≡ b → cond b None o ≡ Some k → Either (failed m) n k o
    go true e h = let z : ◌≡◌ {A = ℕ} 0 1 = cc in absurd (omega arith)
    go false e h = inr (other-number m n e, h)
open-cases started_play n k o h = inr (silent n, h)
open-cases started_publish n k o h = inr (silent n, h)
open-cases deleted n k o h = inr (silent n, h)

unanswered : (j : Journal) (n : ℕ) (k : OutstandingTransaction) → rule_open j n ≡ Some k → Unanswered j n k
unfolding rule_open
unanswered [] n k h = let z : ◌≡◌ {A = ℕ} 0 1 = cc in absurd (omega arith)
unanswered (l ∷ j) n k h = go (open-cases (said l) n k (rule_open j n) h) (unanswered j n k)
  where
    further : reply_number (said l) ≢ Some n → Unanswered j n k → Unanswered (l ∷ j) n k
    further q w =
        record {
          since = l ∷ w.since;
          line = w.line;
          before = w.before;
          stands = ap (λ x. l ∷ x) w.stands;
          gave = w.gave;
          no_reply = λ m t. later m (Memᴰ.cases_cons t);
        }
      where
        later : (m : Line) → (m ≡ l) ⊎ Memᴰ m w.since → reply_number (said m) ≢ Some n
        later m (inl e) = rw e q
        later m (inr t) = w.no_reply m t

    go : Either (said l) n k (rule_open j n) → (rule_open j n ≡ Some k → Unanswered j n k) → Unanswered (l ∷ j) n k
    go (inl e) f = record { since = []; line = l; before = j; stands = refl; gave = e; no_reply = λ m t. absurd (Memᴰ.not-nil t) }
    go (inr r) f = further r.0 (f r.1)

pub means : (j : Journal) → Means j
unfolding rule_stage stage_of stage_by rule_active active_of latest_grant
means j =
    record {
      search = search-of mark j;
      at_first = λ n. rw (never-found mark j n);
      reply = λ w. rw (latest-found mark j _ w);
      stop = λ w. rw (latest-found mark j _ w);
      requested = λ p x w n. rw (latest-found mark j _ w, none_came (is_own p) w.since n);
      running = λ p x w c. rw (latest-found mark j _ w, came-any (is_own p) w.since c.line c.among c.says);
      grant_search = search-of grant_at j;
      active = λ x w n. rw (latest-found grant_at j _ w, none_came is_deleted w.since n);
      no_grant = λ n. rw (never-found grant_at j n);
      stop_came = λ x w c. rw (latest-found grant_at j _ w, came-any is_deleted w.since c.line c.among c.says);
      the_grant = λ x w. rw (latest-found grant_at j _ w);
      is_open = λ n k w. rw w.stands (open-given w.since w.line w.before n k w.gave w.no_reply);
      asked_for = unanswered j;
    }
