-- What `kind_at` and `after` answer of the value at a place is what is taken there; and what that tells of a value that is read.
-- Assumes nothing.
use Rattle.std.proofs.Common.{◌≡◌, ℕ, ◌<◌, List, arith, drop, length-drop, refl, ◌∙◌}
use Rattle.std.specs.Prelude.{Result, Ok, Err}
use Rattle.octets.specs.Parse.{Parse, bad, got, place_of}
use Rattle.amf0.specs.Value.{Value}
use Rattle.amf0.specs.Decode.{top_value}
use Rattle.amf0.specs.Places.{end_of, kind_at, kind_of, malformed}
use Rattle.amf0.specs.declared.kinds.Kind.{Kind}
use Rattle.amf0.specs.declared.read.Malformed.{Malformed}
use Rattle.amf0.proofs.CutLaws.{clash, past-place, past-length, cuts-value}
use Rattle.amf0.proofs.KindLaws.{told}
use Rattle.amf0.proofs.PlaceLaws.{bad-read}
use Rattle.reader.specs.Read.{taken_from, taken, kind_taken, next_taken}
use Rattle.reader.specs.declared.Taken.{Taken}

module _ (s : List ℕ) (at : ℕ) where
  pub none-taken : {d : Malformed} → Err d ≡ end_of s (top_value (drop at s)) → Err malformed ≡ taken s at
  unfolding taken taken_from
  none-taken e = rw (bad-read s (top_value (drop at s)) e)

  pub one-taken : (k : Kind) (n : ℕ) → Ok n ≡ end_of s (top_value (drop at s)) → Ok k ≡ kind_at s (drop at s)
      → Ok (record { kind = k; next = n }) ≡ taken s at
  unfolding taken taken_from end_of
  one-taken k n e h = go (top_value (drop at s)) refl e
    where
      go : (p : Parse Value) → top_value (drop at s) ≡ p → Ok n ≡ end_of s p → ◌≡◌ {A = Result Taken Malformed} (Ok (record { kind = k; next = n })) (taken_from s p)
      go bad q e = clash (cc)
      go (got v r) q e =
          let i : n ≡ place_of s r = cc in
          let g : Ok k ≡ Ok (kind_of s v r) = h ∙ told 7 s (drop at s) q in
          let j : k ≡ kind_of s v r = cc in
          rw (i, j)

-- what is read at a place of s, and where the reader stands then: no value, or one, and the bytes after it begin at the place after it
pub data ReadAt (s : List ℕ) (at : ℕ) : Result Kind Malformed → ℕ → Type 0 where
  none : {d : Malformed} → top_value (drop at s) ≡ bad → ReadAt s at (Err d) at
  one : (v : Value) (r : List ℕ) → top_value (drop at s) ≡ got v r → r ≡ drop (place_of s r) s → at < place_of s r
      → ReadAt s at (Ok (kind_of s v r)) (place_of s r)

-- a reader of x that stands at p, where these are s and at
pub read_at : (s : List ℕ) (at : ℕ) {x : List ℕ} {p : ℕ} → x ≡ s → p ≡ at → {k : Result Kind Malformed} {n : ℕ}
    → k ≡ kind_taken (taken x p) → n ≡ next_taken p (taken x p) → ReadAt s at k n
unfolding taken taken_from
read_at s at a b e h = rw (e, h, a, b) (go (top_value (drop at s)) refl)
  where
    go : (p : Parse Value) → top_value (drop at s) ≡ p → ReadAt s at (kind_taken (taken_from s p)) (next_taken at (taken_from s p))
    go bad e = none e
    go (got v r) e =
        let c = (cuts-value 8 (drop at s)).cut e in
        one v r e (past-place s at c) (omega (arith, past-length c, length-drop at s))
