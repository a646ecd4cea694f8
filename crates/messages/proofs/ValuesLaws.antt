-- Values to the end of the bytes: there are none, or a first one and those after it; nothing is left. And what the answer of `count_values` tells, also where it counts only those after a value that was taken.
-- Assumes nothing.
use Prim.Native.Nat.{ℕ, zero, suc}
use native.Mathlib.Omega.{arith}
use mathlib.Core.Path.{◌≡◌, refl, sym, ap, ◌∙◌}
use mathlib.Core.Bool.{Bool, true, false, cond}
use mathlib.Core.List.{List, [], ◌∷◌}
use lib.Dec.{eqb}
use lib.ListN.{length, drop}
use borrow.Author.Tests.{eqb-true, ne_eqb}
use Rattle.std.specs.Prelude.{Some, Result, Ok, Err}
use Rattle.octets.specs.Parse.{Parse, bad, got, and_then}
use Rattle.amf0.specs.Value.{Value, number, boolean, text, object, null, undefined, strict, Values, nil, cons}
use Rattle.amf0.specs.Decode.{marker, top_value, to_end, all_values}
use Rattle.amf0.specs.Places.{kind_at, kind_of, count_of}
use Rattle.amf0.specs.declared.read.Malformed.{Malformed}
use Rattle.amf0.proofs.CutLaws.{clash, steps, wrapped, past-length, cuts-value, cuts_short, cuts-marker}
use Rattle.amf0.proofs.Fuel.{all-is}
use Rattle.amf0.proofs.KindLaws.{told}
use Rattle.reader.proofs.TakenLaws.{ReadAt}
use Rattle.reader.proofs.TakenLaws as taken
use Rattle.messages.specs.Steps.{argument_kind, argument_told}
use Rattle.amf0.specs.declared.kinds.Kind.{Kind}
use Rattle.messages.specs.Places.{argument_of, first_of}

-- the values vs that f read from s to its end
pub data Ended (f : List ℕ → Parse Value) (s : List ℕ) : Values → Type 0 where
  none : length s ≡ 0 → Ended f s nil
  some : {v : Value} {vs : Values} {r : List ℕ} (k : ℕ) → f s ≡ got v r → to_end f k r ≡ got vs [] → Ended f s (cons v vs)

pub record AtEnd (f : List ℕ → Parse Value) (s : List ℕ) (vs : Values) (r : List ℕ) : Type 0 where
  pub left : r ≡ []
  pub ended : Ended f s vs

empty : (s : List ℕ) → length s ≡ 0 → s ≡ []
empty [] e = refl
empty (x ∷ s) e = absurd (omega arith)

module _ (f : List ℕ → Parse Value) where
  end_none : (s : List ℕ) {vs : Values} {r : List ℕ} → length s ≡ 0 → got nil s ≡ got vs r → AtEnd f s vs r
  end_none s {vs} {r} l e =
      let q : nil ≡ vs = cc in
      let z : s ≡ r = cc in
      record { left = sym z ∙ empty s l; ended = rw (← q) (none l) }

  pub at-end : (k : ℕ) (s : List ℕ) {vs : Values} {r : List ℕ} → to_end f k s ≡ got vs r → AtEnd f s vs r
  unfolding to_end
  at-end zero s {vs} {r} e = go (eqb (length s) 0) refl e
    where
      go : (b : Bool) → eqb (length s) 0 ≡ b → cond b (got nil s) bad ≡ got vs r → AtEnd f s vs r
      go true t e = end_none s (eqb-true _ _ t) e
      go false t e = clash (cc)
  at-end (suc k) s {vs} {r} e = go (eqb (length s) 0) refl (λ x ws. at-end k x) e
    where
      go : (b : Bool) → eqb (length s) 0 ≡ b → ((x : List ℕ) (ws : Values) → to_end f k x ≡ got ws r → AtEnd f x ws r)
          → cond b (got nil s) (and_then (f s) (λ v r. and_then (to_end f k r) (λ vs r2. got (cons v vs) r2))) ≡ got vs r → AtEnd f s vs r
      go true t ih e = end_none s (eqb-true _ _ t) e
      go false t ih e =
          let i = steps (f s) _ e in
          let j = wrapped (to_end f k i.rest) (cons i.what) i.two in
          let h = ih i.rest j.what j.is in
          record { left = h.left; ended = rw (← j.means) (some k i.one (j.is ∙ ap (got j.what) h.left)) }

-- the first of them is the argument that the kind tells
argument-kind : (s : List ℕ) (v : Value) (r : List ℕ) → argument_kind (kind_of s v r) ≡ argument_of v
unfolding kind_of argument_of
argument-kind s (number n) r = refl
argument-kind s (boolean b) r = refl
argument-kind s (text t) r = refl
argument-kind s (object ps) r = refl
argument-kind s null r = refl
argument-kind s undefined r = refl
argument-kind s (strict vs) r = refl

pub first_told : (s x : List ℕ) (vs : Values) → Ended top_value x vs → argument_told (kind_at s x) ≡ first_of vs
unfolding kind_at first_of
first_told s x nil (none e) = rw (cuts_short (marker x) (cuts-marker x) (omega arith))
first_told s x (cons v vs) (some k e g) = ap argument_told (told 7 s x e) ∙ ap Some (argument-kind s v _)

-- and so it is told by what was read there
pub first_taken : (s : List ℕ) (at : ℕ) {k : Result Kind Malformed} {n : ℕ} → ReadAt s at k n → (vs : Values) → Ended top_value (drop at s) vs
    → argument_told k ≡ first_of vs
unfolding first_of
first_taken s at (taken.none e) nil (none l) = refl
first_taken s at (taken.none e) (cons v vs) (some k g h) = clash (cc)
first_taken s at (taken.one w r e i l) nil (none z) = let b = cuts_short (top_value (drop at s)) (cuts-value 8 (drop at s)) (omega arith) in clash (cc)
first_taken s at (taken.one w r e i l) (cons v vs) (some {r = x} k g h) =
    let p : w ≡ v = cc in
    ap Some (argument-kind s w r ∙ ap argument_of p)

-- what `count_values` says of the values there
pub record AllRead (x : List ℕ) : Type 0 where
  pub all : Values
  pub read : all_values x ≡ got all []
  pub ended : Ended top_value x all

abbrev pub AllThere : List ℕ → Result ℕ Malformed → Type 0
AllThere x (Err e) = all_values x ≡ bad
AllThere x (Ok n) = AllRead x

pub all_there : (x : List ℕ) (o : Result ℕ Malformed) → o ≡ count_of (all_values x) → AllThere x o
unfolding count_of
all_there x o e = rw e (go (all_values x) refl)
  where
    go : (p : Parse Values) → all_values x ≡ p → AllThere x (count_of p)
    go bad e = e
    go (got vs r) e = let h = at-end top_value (length x) x e in record { all = vs; read = e ∙ ap (got vs) h.left; ended = h.ended }

-- the same from before the value that was taken
module _ (x : List ℕ) {v : Value} {r : List ℕ} (e : top_value x ≡ got v r) where
  before-is : all_values x ≡ and_then (all_values r) (λ vs y. got (cons v vs) y)
  before-is =
      let l = past-length ((cuts-value 8 x).cut e) in
      all-is top_value (cuts-value 8) x ∙ rw (ne_eqb (length x) 0 (λ z. omega (arith, l)), e)

  all_after : (o : Result ℕ Malformed) → AllThere r o → AllThere x o
  all_after (Err e) a = before-is ∙ rw a
  all_after (Ok n) a = record { all = cons v a.all; read = before-is ∙ rw a.read; ended = some (length r) e a.read }

pub all-before : (s : List ℕ) (at : ℕ) {k : Result Kind Malformed} {n : ℕ} → ReadAt s at k n → (o : Result ℕ Malformed) → AllThere (drop n s) o
    → AllThere (drop at s) o
all-before s at (taken.none e) o a = a
all-before s at (taken.one v r e i l) o a = all_after (drop at s) e o (rw i a)
