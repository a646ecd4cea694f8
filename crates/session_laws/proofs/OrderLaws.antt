-- The walk down a list of refusals, beside the walk of `in_order` and `fitted`.
-- Assumes nothing.
use Prim.Native.Nat.{ℕ, ◌<◌}
use native.Mathlib.Omega.{arith}
use mathlib.Core.Path.{◌≡◌, refl, sym, ap, ◌∙◌}
use mathlib.Core.Logic.{inl, inr}
use mathlib.Core.Bool.{Bool, true, false, cond, not}
use mathlib.Core.List.{List, [], ◌∷◌}
use lib.Dec.{ltb}
use lib.ListN.{length}
use Rattle.std.specs.Prelude.{Result, Err}
use Rattle.requests.proofs.BoolLaws.{by_cases}
use Rattle.session.specs.Calls.{Call, Results}
use Rattle.session.specs.Outcomes.{output}
use Rattle.session.specs.Plan.{Plan, refuse, close, go, Check, in_order}
use Rattle.session.specs.Step.{Stepped, fitted}
use Rattle.session.specs.declared.errors.ClientSessionError.{ClientSessionError}
use Rattle.session.specs.declared.errors.ClientSessionError.TheVariants.{Space}
use Rattle.session.specs.declared.record.ClientSession.{ClientSession}
use Rattle.session.specs.declared.result.Outcome.{Outcome}
use Rattle.session_laws.specs.Order.{Row, ◌if◌, First, NoneOf}
use Rattle.session_laws.specs.Refusals.{is_refused, Exactly}
use Rattle.session_laws.specs.Space.{Takes, Short}
use Rattle.session_laws.proofs.DecideLaws.{Decides, true_false, decides_lt}

-- what a walk comes to: the first refusal, which is given, or a success
pub data Fate (rows : List Row) (o : Result Outcome ClientSessionError) : Type 0 where
  away : (e : ClientSessionError) → First rows e → o ≡ Err e → Fate rows o
  passed : NoneOf rows → is_refused o ≡ false → Fate rows o

pub hit : {r : Row} {rows : List Row} {o : Result Outcome ClientSessionError} → r.when → o ≡ Err r.says → Fate (r ∷ rows) o
hit {r} p h = away r.says (inl (p, refl)) h

pub miss : {r : Row} {rows : List Row} {o : Result Outcome ClientSessionError} → ¬ r.when → Fate rows o → Fate (r ∷ rows) o
miss n (away e f h) = away e (inr (n, f)) h
miss n (passed w h) = passed (n, w) h

first_one : (rows : List Row) {e d : ClientSessionError} → First rows e → First rows d → e ≡ d
first_one [] f g = absurd f
first_one (r ∷ rs) (inl f) (inl g) = sym f.1 ∙ g.1
first_one (r ∷ rs) (inl f) (inr g) = absurd (g.0 f.0)
first_one (r ∷ rs) (inr f) (inl g) = absurd (f.0 g.0)
first_one (r ∷ rs) (inr f) (inr g) = first_one rs f.1 g.1

none_first : (rows : List Row) (e : ClientSessionError) → NoneOf rows → First rows e → ⊥
none_first [] e n f = f
none_first (r ∷ rs) e n (inl f) = n.0 f.0
none_first (r ∷ rs) e n (inr f) = none_first rs e n.1 f.1

pub refused_true : {o : Result Outcome ClientSessionError} {e : ClientSessionError} → o ≡ Err e → is_refused o ≡ true
refused_true h = ap is_refused h

pub exact : {rows : List Row} {o : Result Outcome ClientSessionError} → Fate rows o → Exactly rows o
exact {rows} (away e f h) =
    record {
      turned_away = λ d. (λ k. let q : e ≡ d = cc in rw q at f, λ g. h ∙ ap Err (first_one rows f g));
      passes = (λ k. true_false (refused_true h) k, λ n. absurd (none_first rows e n f));
    }
exact {rows} (passed n h) =
    record {
      turned_away = λ d. (λ k. true_false (refused_true k) h, λ f. absurd (none_first rows d n f));
      passes = (λ k. n, λ n. h);
    }

-- a test of what f reads an outcome from
module _ {A : Type 0} (f : A → Result Outcome ClientSessionError) (b : Bool) (x y : A) {r : Row} {rows : List Row} where
  pub turned_if : Decides b r.when → f x ≡ Err r.says → (b ≡ false → Fate rows (f y)) → Fate (r ∷ rows) (f (cond b x y))
  turned_if d h k = by_cases b (λ e. rw e (hit (d.holds e) h)) (λ e. rw e (miss (d.fails e) (k e)))

  pub turned_unless : Decides (not b) r.when → f x ≡ Err r.says → (b ≡ true → Fate rows (f y)) → Fate (r ∷ rows) (f (cond b y x))
  turned_unless d h k = by_cases b (λ e. rw e (miss (d.fails (ap not e)) (k e))) (λ e. rw e (hit (d.holds (ap not e)) h))

-- how much a plan writes
abbrev pub planned : Plan → ℕ
planned (refuse e) = 0
planned (close e s) = 0
planned (go rs s) = length (output rs)

module _ (s : ClientSession) (old : List ℕ) where
  abbrev pub answer : Plan → Result Outcome ClientSessionError
  answer p = (fitted s old p).outcome

  pub checked : (k : Check) (ks : List Check) (p : Plan) {w : Type 0} {rows : List Row} →
      Decides k.when w → (k.when ≡ false → Fate rows (answer (in_order ks p))) → Fate (k.says if w ∷ rows) (answer (in_order (k ∷ ks) p))
  unfolding in_order fitted
  checked k ks p d f = turned_if answer k.when (refuse k.says) (in_order ks p) d refl f

  pub last : (p : Plan) {rows : List Row} → Fate rows (answer p) → Fate rows (answer (in_order [] p))
  unfolding in_order
  last p f = f

  -- refusal 12
  pub space : (c : Call) (rs : Results) (after : ClientSession) →
      (0 < length (output rs) → Takes s c (length (output rs))) → ((n : ℕ) → Takes s c n → n ≡ length (output rs)) →
      Fate (Space if Short s c old ∷ []) (answer (go rs after))
  unfolding fitted
  space c rs after to only =
      turned_if (λ (x : Stepped). x.outcome) (ltb (length old) (length (output rs))) _ _
      (record {
        holds = λ h. let l = (decides_lt (length old) (length (output rs))).holds h in (length (output rs), to (omega arith), l);
        fails = λ h w. let e = only w.0 w.1 in (decides_lt (length old) (length (output rs))).fails h (omega arith);
      })
      refl
      (λ h. passed tt refl)
