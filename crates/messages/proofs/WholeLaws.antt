-- Bodies of numbers: `whole` of a number that is to take every byte, and of what `last_word` answers.
-- Assumes nothing.
use Prim.Native.Nat.{ℕ}
use native.Mathlib.Omega.{arith}
use mathlib.Core.Path.{◌≡◌, refl, ap}
use mathlib.Core.Bool.{Bool, true, false, cond}
use mathlib.Core.List.{List, [], ◌∷◌}
use lib.Dec.{eqb}
use lib.ListN.{length, drop, length-drop}
use lib.Seq.{take_all}
use borrow.Author.Tests.{eqb-true, eqb-false, le-leb}
use Rattle.std.specs.Prelude.{Result, Ok, Err}
use Rattle.octets.specs.Parse.{Parse, bad, got, and_then, field}
use Rattle.octets.specs.BigEndian.{be, uint}
use Rattle.amf0.proofs.CutLaws.{clash, uint-got}
use Rattle.messages.specs.Incoming.{Incoming, malformed, whole}
use Rattle.amf0.specs.Places as amf0
use Rattle.amf0.specs.declared.read.Malformed.{Malformed}

module _ {A : Type 0} (say : A → Incoming) where
  pub whole-all : (a : A) (r : List ℕ) → length r ≡ 0 → whole say (got a r) ≡ say a
  whole-all a [] e = refl
  whole-all a (x ∷ r) e = absurd (omega arith)

  -- something is left over wherever something was read
  pub whole-more : (p : Parse A) → ((a : A) (r : List ℕ) → p ≡ got a r → length r ≡ 0 → ⊥) → whole say p ≡ malformed
  whole-more bad h = refl
  whole-more (got a []) h = absurd (h a [] refl refl)
  whole-more (got a (x ∷ r)) h = refl

  pub whole-then : {B : Type 0} (g : B → A) (p : Parse B) → whole say (and_then p (λ b r. got (g b) r)) ≡ whole (λ b. say (g b)) p
  whole-then g bad = refl
  whole-then g (got b []) = refl
  whole-then g (got b (x ∷ r)) = refl

uint-all : (n : ℕ) (s : List ℕ) → length s ≡ n → uint n s ≡ got (be s) (drop n s)
unfolding uint field
uint-all n s e = rw (le-leb n (length s) (omega arith), take_all n s (omega arith))

pub whole-uint : (say : ℕ → Incoming) (n : ℕ) (s : List ℕ) → whole say (uint n s) ≡ cond (eqb (length s) n) (say (be s)) malformed
whole-uint say n s = go (eqb (length s) n) refl
  where
    go : (b : Bool) → eqb (length s) n ≡ b → whole say (uint n s) ≡ cond b (say (be s)) malformed
    go true t =
        let e : length s ≡ n = eqb-true _ _ t in
        rw (uint-all n s e) (whole-all say (be s) (drop n s) (omega (arith, length-drop n s)))
    go false t =
        whole-more say (uint n s) (λ a r g z.
        let f = (uint-got n s g).1 in
        eqb-false (length s) n t (omega (arith, f.fits, ap length f.rest, length-drop n s)))

-- what `last_word` answers of the bytes x
abbrev pub word : List ℕ → Result ℕ Malformed
word x = cond (eqb (length x) 4) (Ok (be x)) (Err amf0.malformed)

module _ (say : ℕ → Incoming) (x : List ℕ) where
  pub word-is : {n : ℕ} → Ok n ≡ word x → say n ≡ whole say (uint 4 x)
  word-is {n} e = rw (whole-uint say 4 x) (go (eqb (length x) 4) e)
    where
      go : (b : Bool) → ◌≡◌ {A = Result ℕ Malformed} (Ok n) (cond b (Ok (be x)) (Err amf0.malformed)) → say n ≡ cond b (say (be x)) malformed
      go true e = ap say (let q : n ≡ be x = cc in q)
      go false e = clash (cc)

  pub word_short : {d : Malformed} → Err d ≡ word x → malformed ≡ whole say (uint 4 x)
  word_short {d} e = rw (whole-uint say 4 x) (go (eqb (length x) 4) e)
    where
      go : (b : Bool) → ◌≡◌ {A = Result ℕ Malformed} (Err d) (cond b (Ok (be x)) (Err amf0.malformed)) → malformed ≡ cond b (say (be x)) malformed
      go true e = clash (cc)
      go false e = refl
