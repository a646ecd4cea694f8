-- Readings at a place of s: what an answer of a reader says of them.
-- Assumes nothing.
use Prim.Native.Nat.{ℕ, ◌+◌, ◌-◌, ◌≤◌, ◌<◌}
use native.Mathlib.Omega.{arith}
use mathlib.Core.Path.{◌≡◌, refl, sym, ap, ◌∙◌}
use mathlib.Core.List.{List}
use lib.ListN.{length, drop, get_or, length-drop}
use lib.Seq.{drop-cons, drop-drop}
use Rattle.std.specs.Prelude.{Option, Some, None, Result, Ok, Err}
use Rattle.std.specs.Option.{ok_or}
use Rattle.std.specs.Result.{IsErr}
use Rattle.octets.specs.Parse.{Parse, bad, got, and_then, place_of}
use Rattle.octets.specs.BigEndian.{uint, read_as}
use Rattle.octets.proofs.BigEndianLaws.{uint-at, uint-short}
use Rattle.amf0.specs.Decode.{marker_of, coded, marker}
use Rattle.amf0.specs.Places.{outcome, end_of, malformed}
use Rattle.amf0.specs.declared.marker.Marker.{Marker}
use Rattle.amf0.specs.declared.read.Malformed.{Malformed}
use Rattle.amf0.proofs.CutLaws.{clash, Cuts, uint-got, marker-got}

pub place_at : (s : List ℕ) (k : ℕ) → k ≤ length s → place_of s (drop k s) ≡ k
place_at s k h = omega (arith, length-drop k s)

-- one byte
pub byte_at : (s : List ℕ) (at : ℕ) → at < length s → uint 1 (drop at s) ≡ got (get_or s at 0) (drop (at + 1) s)
byte_at s at h = uint-at 1 s at (omega arith) ∙ rw (drop-cons s at 0 h) (ap (λ (x : ℕ). got x (drop (at + 1) s)) (omega arith))

-- ---- what `?` tells of a reading: it was found, or not
pub outcome-none : {A : Type 0} {e : Malformed} (p : Parse A) → Err e ≡ outcome p → p ≡ bad
unfolding outcome
outcome-none bad q = refl
outcome-none (got a r) q = clash (cc)

-- what `?` returns
pub err-is : {A : Type 0} (r : Result A Malformed) → IsErr r → r ≡ Err malformed
err-is (Ok a) e = clash (cc)
err-is (Err d) e = refl

-- what `ok_or` tells of an option
pub ok-or-some : {A : Type 0} (o : Option A) {a : A} {d : Malformed} → Ok a ≡ ok_or o d → Some a ≡ o
ok-or-some (Some x) e = cc
ok-or-some None e = clash (cc)

pub ok-or-none : {A : Type 0} (o : Option A) {c d : Malformed} → Err c ≡ ok_or o d → None ≡ o
ok-or-none (Some x) e = clash (cc)
ok-or-none None e = refl

-- the marker at a place
pub marker-over : (s : List ℕ) (at : ℕ) → length s ≤ at → marker (drop at s) ≡ bad
unfolding marker
marker-over s at h = rw (uint-short 1 s at (omega arith))

pub record MarkerRead (s : List ℕ) (at : ℕ) (k : Marker) : Type 0 where
  pub is : marker (drop at s) ≡ got k (drop (at + 1) s)
  pub within : at < length s

pub marker-read : (s : List ℕ) (at : ℕ) (k : Marker) → Ok k ≡ outcome (marker (drop at s)) → MarkerRead s at k
unfolding outcome
marker-read s at k e = go (marker (drop at s)) refl e
  where
    go : (p : Parse Marker) → marker (drop at s) ≡ p → Ok k ≡ outcome p → MarkerRead s at k
    go bad q e = clash (cc)
    go (got m r) q e =
        let f = marker-got (drop at s) q in
        let i : k ≡ m = cc in
        record { is = q ∙ cc (f.1, drop-drop 1 at s); within = omega (arith, f.0, length-drop at s) }

-- what `marker_at` has to answer, by the byte there
coded-is : (o : Result Marker Malformed) (r : List ℕ) → o ≡ outcome (coded o r)
unfolding outcome
coded-is (Ok k) r = refl
coded-is (Err d) r = refl

pub marker-outcome : (x : List ℕ) {b : ℕ} → Ok b ≡ outcome (uint 1 x) → marker_of b ≡ outcome (marker x)
unfolding outcome marker
marker-outcome x {b} e = go (uint 1 x) e
  where
    go : (p : Parse ℕ) → Ok b ≡ outcome p → marker_of b ≡ outcome (and_then p (λ m r. coded (marker_of m) r))
    go bad e = clash (cc)
    go (got m r) e = let i : b ≡ m = cc in rw i (coded-is (marker_of m) r)

pub no-marker : (x : List ℕ) {d : Malformed} → Err d ≡ outcome (uint 1 x) → Err malformed ≡ outcome (marker x)
unfolding outcome marker
no-marker x e = rw (outcome-none (uint 1 x) e)

-- the number x of n bytes at a place
pub record UintRead (n : ℕ) (s : List ℕ) (at x : ℕ) : Type 0 where
  pub is : uint n (drop at s) ≡ got x (drop (at + n) s)
  pub within : n ≤ length s - at

pub uint-read : (n : ℕ) (s : List ℕ) (at x : ℕ) → Ok x ≡ outcome (uint n (drop at s)) → UintRead n s at x
unfolding outcome
uint-read n s at x e = go (uint n (drop at s)) refl e
  where
    go : (p : Parse ℕ) → uint n (drop at s) ≡ p → Ok x ≡ outcome p → UintRead n s at x
    go bad q e = clash (cc)
    go (got y r) q e =
        let f = (uint-got n (drop at s) q).1 in
        let i : x ≡ y = cc in
        record { is = q ∙ cc (f.rest, drop-drop n at s); within = omega (arith, f.fits, length-drop at s) }

-- a number that is none is malformed
pub or-malformed : (o : Option ℕ) (p : Parse ℕ) → o ≡ read_as None Some p → ok_or o malformed ≡ outcome p
unfolding outcome
or-malformed o bad e = rw e
or-malformed o (got x r) e = rw e

-- and so, behind `.ok_or(Malformed)?`, a number was read, or there was none
module _ (n : ℕ) (s : List ℕ) (at : ℕ) {o : Option ℕ} where
  pub number-read : {x : ℕ} → Ok x ≡ ok_or o malformed → o ≡ read_as None Some (uint n (drop at s)) → UintRead n s at x
  number-read {x} e q = uint-read n s at x (e ∙ or-malformed o _ q)

  pub no-number : {d : Malformed} → Err d ≡ ok_or o malformed → o ≡ read_as None Some (uint n (drop at s)) → uint n (drop at s) ≡ bad
  no-number e q = outcome-none _ (e ∙ or-malformed o _ q)

-- an answer `Ok k` to a reading from `at` on
pub record Read {A : Type 0} (s : List ℕ) (at m k : ℕ) (p : Parse A) : Type 0 where
  pub what : A
  pub is : p ≡ got what (drop k s)
  pub past : at + m ≤ k
  pub within : k ≤ length s

pub at_read : {A : Type 0} (s : List ℕ) (at m k : ℕ) (p : Parse A) → at ≤ length s → Cuts m (drop at s) p → Ok k ≡ end_of s p → Read s at m k p
unfolding end_of
at_read s at m k bad h i e = clash (cc)
at_read s at m k (got a r) h i e =
    let c = i.cut refl in
    let l : r ≡ drop (at + c.by) s = c.is ∙ drop-drop c.by at s in
    let g : k ≡ place_of s r = cc in
    let q : k ≡ at + c.by = omega (arith, c.most, ap length l, length-drop at s, length-drop (at + c.by) s) in
    record { what = a; is = ap (got a) (rw q l); past = omega (arith, c.least); within = omega (arith, c.most, length-drop at s) }

pub bad-read : {A : Type 0} {d : Malformed} (s : List ℕ) (p : Parse A) → Err d ≡ end_of s p → p ≡ bad
unfolding end_of
bad-read s bad e = refl
bad-read s (got a r) e = clash (cc)

-- what to answer
pub end-got : {A : Type 0} (s : List ℕ) (k : ℕ) (a : A) → k ≤ length s → Ok k ≡ end_of s (got a (drop k s))
unfolding end_of
end-got s k a h = ap Ok (sym (place_at s k h))

pub end-bad : {A : Type 0} (s : List ℕ) (p : Parse A) → p ≡ bad → Err malformed ≡ end_of s p
unfolding end_of
end-bad s p e = rw e

pub err-end : {A : Type 0} (s : List ℕ) (p : Parse A) {r : Result ℕ Malformed} → IsErr r → p ≡ bad → r ≡ end_of s p
err-end s p {r} i e = err-is r i ∙ end-bad s p e

-- the end of a reading whose meaning is wrapped up
pub forget : {A B : Type 0} (s : List ℕ) (p : Parse A) (g : A → B) → end_of s p ≡ end_of s (and_then p (λ a r. got (g a) r))
unfolding end_of
forget s bad g = refl
forget s (got a r) g = refl
