-- The length is fuel enough for the properties of an object and for the values of a body: more changes nothing.
-- Assumes nothing.
use Prim.Native.Nat.{ℕ, zero, suc, ◌≤◌, ◌<◌}
use native.Mathlib.Omega.{arith}
use mathlib.Core.Path.{◌≡◌, refl, sym, ap, ◌∙◌}
use mathlib.Core.Bool.{cond}
use mathlib.Core.List.{List}
use lib.Dec.{eqb}
use lib.ListN.{length}
use borrow.Author.Tests.{eq-eqb}
use Rattle.octets.specs.Parse.{Parse, bad, got, and_then}
use Rattle.amf0.specs.Value.{Value, nil, cons}
use Rattle.amf0.specs.Decode.{Property, Name, last, named, name_of, property_after, properties, object_of, to_end}
use Rattle.amf0.proofs.CutLaws.{Past, Cuts, past-length, cuts_short, cuts-name}

-- two ways to go on that agree on what can be left
then_cong : {A B : Type 0} {m : ℕ} {s : List ℕ} (p : Parse A) {g h : A → List ℕ → Parse B}
    → Cuts m s p → ((a : A) (r : List ℕ) → Past m s r → g a r ≡ h a r) → and_then p g ≡ and_then p h
then_cong bad c e = refl
then_cong (got a r) c e = e a r (c.cut refl)

module _ (f : List ℕ → Parse Value) (hf : (s : List ℕ) → Cuts 1 s (f s)) where
  after_cong : {s : List ℕ} {g h : List ℕ → Parse (List Property)} → ((r : List ℕ) → length r < length s → g r ≡ h r)
      → (n : Name) (r : List ℕ) → Past 2 s r → property_after f g n r ≡ property_after f h n r
  after_cong e last r p = refl
  after_cong e (named n) r p = then_cong (f r) (hf r) (λ v r2 q. rw (e r2 (omega (arith, past-length p, past-length q))))

  no_name : (k : ℕ) (s : List ℕ) → length s ≤ 0 → bad ≡ properties f (suc k) s
  unfolding properties
  no_name k s h = rw (cuts_short (name_of s) (cuts-name s) (omega arith))

  pub properties-fuel : (k k' : ℕ) (s : List ℕ) → length s ≤ k → length s ≤ k' → properties f k s ≡ properties f k' s
  unfolding properties
  properties-fuel zero zero s h h' = refl
  properties-fuel zero (suc k') s h h' = no_name k' s h
  properties-fuel (suc k) zero s h h' = sym (no_name k s h')
  properties-fuel (suc k) (suc k') s h h' =
      then_cong (name_of s) (cuts-name s) (after_cong (λ r l. properties-fuel k k' r (omega arith) (omega arith)))

  pub to_end-fuel : (k k' : ℕ) (s : List ℕ) → length s ≤ k → length s ≤ k' → to_end f k s ≡ to_end f k' s
  unfolding to_end
  to_end-fuel zero zero s h h' = refl
  to_end-fuel zero (suc k') s h h' = rw (eq-eqb (length s) 0 (omega arith))
  to_end-fuel (suc k) zero s h h' = rw (eq-eqb (length s) 0 (omega arith))
  to_end-fuel (suc k) (suc k') s h h' =
      ap (cond (eqb (length s) 0) (got nil s))
      (then_cong (f s) (hf s) (λ v r p. rw (to_end-fuel k k' r (omega (arith, past-length p)) (omega (arith, past-length p)))))

  -- so the fuel can be left out of both
  pub object-is : (s : List ℕ) → object_of f s ≡ and_then (name_of s) (property_after f (object_of f))
  unfolding properties
  object-is s =
      properties-fuel (length s) (suc (length s)) s (omega arith) (omega arith)
      ∙ then_cong (name_of s) (cuts-name s) (after_cong (λ r l. properties-fuel (length s) (length r) r (omega arith) (omega arith)))

  pub all-is : (s : List ℕ) → to_end f (length s) s
      ≡ cond (eqb (length s) 0) (got nil s) (and_then (f s) (λ v r. and_then (to_end f (length r) r) (λ vs r2. got (cons v vs) r2)))
  unfolding to_end
  all-is s =
      to_end-fuel (length s) (suc (length s)) s (omega arith) (omega arith)
      ∙ ap (cond (eqb (length s) 0) (got nil s))
      (then_cong (f s) (hf s) (λ v r p. rw (to_end-fuel (length s) (length r) r (omega (arith, past-length p)) (omega arith))))
