-- From the kind of the value at a place of s to the place after it, where the kind tells it.
-- Assumes nothing.
use Prim.Native.Nat.{ℕ, ◌+◌, ◌-◌, ◌≤◌}
use native.Mathlib.Omega.{arith}
use mathlib.Core.Path.{◌≡◌, refl, sym, ap, ◌∙◌}
use mathlib.Core.Bool.{not}
use mathlib.Core.List.{List}
use lib.Dec.{eqb}
use lib.ListN.{length, drop, length-drop}
use lib.Seq.{drop-drop}
use Rattle.std.specs.Prelude.{Result, Ok, Err}
use Rattle.octets.specs.Parse.{Parse, bad, got, and_then, place_of}
use Rattle.octets.specs.BigEndian.{uint, read_as}
use Rattle.amf0.specs.Value.{Value, number, boolean, text}
use Rattle.amf0.specs.Decode.{marker, text_of, content, value, top_value}
use Rattle.amf0.specs.Places.{end_of, text_place, text_kind, kind_after, kind_from, kind_at, malformed}
use Rattle.amf0.specs.declared.marker.Marker.{Marker}
use Rattle.amf0.specs.declared.marker.Marker.TheVariants.{Number, Boolean, Text, Object, Null, Undefined, EcmaArray, StrictArray}
use Rattle.amf0.specs.declared.kinds.Kind.{Kind}
use Rattle.amf0.specs.declared.kinds.Kind.TheVariants as kind
use Rattle.amf0.specs.declared.read.Malformed.{Malformed}
use Rattle.amf0.proofs.CutLaws.{uint-got, marker-got}
use Rattle.amf0.proofs.TextLaws.{text-read}

-- the place k lies in s, and it is the end e
abbrev pub Ends : List ℕ → ℕ → Result ℕ Malformed → Type 0
Ends s k e = (k ≤ length s) × (Ok k ≡ e)

-- what the kind of the value at a place tells of its end e: of an object and an array nothing
abbrev pub EndTold : List ℕ → ℕ → Kind → Result ℕ Malformed → Type 0
EndTold s at (kind.Number n) e = Ends s (at + 9) e
EndTold s at (kind.Boolean b) e = Ends s (at + 2) e
EndTold s at (kind.Text p) e = Ends s (p.start + p.len) e
EndTold s at kind.Object e = Unit {0}
EndTold s at kind.Null e = Ends s (at + 1) e
EndTold s at kind.Undefined e = Ends s (at + 1) e
EndTold s at kind.Array e = Unit {0}

-- where there is no kind, there is no value
abbrev pub KindTold : List ℕ → ℕ → Result Kind Malformed → Result ℕ Malformed → Type 0
KindTold s at (Ok k) e = EndTold s at k e
KindTold s at (Err d) e = Err malformed ≡ e

module _ (s : List ℕ) (at : ℕ) where
  -- n bytes after the marker
  bytes-end : (n : ℕ) {x : ℕ} {r : List ℕ} → at + 1 ≤ length s → uint n (drop (at + 1) s) ≡ got x r → Ends s (at + 1 + n) (Ok (place_of s r))
  bytes-end n {x} {r} h e =
      let f = (uint-got n (drop (at + 1) s) e).1 in
      let l : length r ≡ length s - (at + 1 + n) = ap length (f.rest ∙ drop-drop n (at + 1) s) ∙ length-drop (at + 1 + n) s in
      (omega (arith, f.fits, length-drop (at + 1) s), ap Ok (omega (arith, l, f.fits, length-drop (at + 1) s)))

  module _ (h : at + 1 ≤ length s) where
    number-end : (p : Parse ℕ) → uint 8 (drop (at + 1) s) ≡ p → KindTold s at (read_as (Err malformed) (λ n. Ok (kind.Number n)) p) (end_of s (and_then p (λ n r. got (number n) r)))
    unfolding end_of
    number-end bad e = refl
    number-end (got n r) e = let i : at + 1 + 8 ≡ at + 9 = omega arith in rw (← i) (bytes-end 8 h e)

    boolean-end : (p : Parse ℕ) → uint 1 (drop (at + 1) s) ≡ p
        → KindTold s at (read_as (Err malformed) (λ b. Ok (kind.Boolean (not (eqb b 0)))) p) (end_of s (and_then p (λ b r. got (boolean (not (eqb b 0))) r)))
    unfolding end_of
    boolean-end bad e = refl
    boolean-end (got n r) e = let i : at + 1 + 1 ≡ at + 2 = omega arith in rw (← i) (bytes-end 1 h e)

    text-end : (p : Parse (List ℕ)) → text_of (drop (at + 1) s) ≡ p → KindTold s at (text_kind (text_place s p)) (end_of s (and_then p (λ t r. got (text t) r)))
    unfolding end_of text_place
    text-end bad e = refl
    text-end (got t r) e =
        let i = text-read s (at + 1) e in
        let l : length r ≡ length s - (at + 1 + 2 + length t) = ap length i.rest ∙ length-drop (at + 1 + 2 + length t) s in
        (omega (arith, l, i.within), ap Ok (omega (arith, l, i.within)))

    after-marker : (f : List ℕ → Parse Value) (k : Marker) (y : List ℕ) → y ≡ drop (at + 1) s → KindTold s at (kind_after s k y) (end_of s (content f k y))
    unfolding content kind_after end_of
    after-marker f Number y e = number-end (uint 8 y) (ap (uint 8) (sym e))
    after-marker f Boolean y e = boolean-end (uint 1 y) (ap (uint 1) (sym e))
    after-marker f Text y e = text-end (text_of y) (ap text_of (sym e))
    after-marker f Object y e = tt
    after-marker f Null y e = (h, ap Ok (omega (arith, ap length e, length-drop (at + 1) s)))
    after-marker f Undefined y e = (h, ap Ok (omega (arith, ap length e, length-drop (at + 1) s)))
    after-marker f EcmaArray y e = tt
    after-marker f StrictArray y e = tt

  from-marker : (d : ℕ) (p : Parse Marker) → marker (drop at s) ≡ p → KindTold s at (kind_from s p) (end_of s (and_then p (content (value d))))
  unfolding end_of
  from-marker d bad e = refl
  from-marker d (got m y) e =
      let f = marker-got (drop at s) e in
      after-marker (omega (arith, f.0, length-drop at s)) (value d) m y (f.1 ∙ drop-drop 1 at s)

  pub kind-told : (k : Result Kind Malformed) → k ≡ kind_at s (drop at s) → KindTold s at k (end_of s (top_value (drop at s)))
  unfolding kind_at value
  kind-told k e = rw e (from-marker 7 (marker (drop at s)) refl)
