-- What `kind_at` tells of a value that is read whole is the value's kind with what it holds, and a text lies at the place that it tells.
-- Assumes nothing.
use Prim.Native.Nat.{ℕ, suc, ◌+◌, ◌-◌}
use mathlib.Core.Path.{◌≡◌, sym, ap, ◌∙◌}
use mathlib.Core.Bool.{not}
use mathlib.Core.List.{List}
use lib.Dec.{eqb}
use lib.ListN.{length, drop}
use lib.Seq.{drop-drop}
use Rattle.std.specs.Prelude.{Result, Ok, Err}
use Rattle.octets.specs.Parse.{Parse, bad, got, place_of}
use Rattle.octets.specs.BigEndian.{uint}
use Rattle.octets.specs.Compare.{part}
use Rattle.octets.specs.Span.{span}
use Rattle.octets.specs.declared.span.Span.{Span}
use Rattle.amf0.specs.Value.{Value, number, boolean, text, object, null, undefined, strict}
use Rattle.amf0.specs.Decode.{text_of, plainly, object_of, values, content, marker, value}
use Rattle.amf0.specs.Places.{malformed, text_place, kind_after, kind_at, kind_of}
use Rattle.amf0.specs.declared.marker.Marker.{Marker}
use Rattle.amf0.specs.declared.marker.Marker.TheVariants.{Number, Boolean, Text, Object, Null, Undefined, EcmaArray, StrictArray}
use Rattle.amf0.specs.declared.kinds.Kind.{Kind}
use Rattle.amf0.specs.declared.kinds.Kind.TheVariants as kind
use Rattle.amf0.specs.declared.read.Malformed.{Malformed}
use Rattle.amf0.proofs.CutLaws.{clash, steps, wrapped, marker-got}
use Rattle.amf0.proofs.PlaceLaws.{MarkerRead}
use Rattle.amf0.proofs.TextLaws.{text-part}

module _ (s : List ℕ) (f : List ℕ → Parse Value) (v : Value) (r : List ℕ) where
  kind-of : (w : Value) → w ≡ v → ◌≡◌ {A = Result Kind Malformed} (Ok (kind_of s w r)) (Ok (kind_of s v r))
  kind-of w e = ap (λ (x : Value). Ok (kind_of s x r)) e

  told-after : (k : Marker) (x : List ℕ) → content f k x ≡ got v r → kind_after s k x ≡ Ok (kind_of s v r)
  unfolding content kind_after kind_of text_place
  told-after Number x e = let i = wrapped (uint 8 x) number e in rw i.is (kind-of _ i.means)
  told-after Boolean x e = let i = wrapped (uint 1 x) (λ b. boolean (not (eqb b 0))) e in rw i.is (kind-of _ i.means)
  told-after Text x e = let i = wrapped (text_of x) text e in rw i.is (kind-of _ i.means)
  told-after Object x e = let i = wrapped (object_of f x) (λ ps. object (plainly ps)) e in kind-of _ i.means
  told-after Null x e = kind-of _ (let q : null ≡ v = cc in q)
  told-after Undefined x e = kind-of _ (let q : undefined ≡ v = cc in q)
  told-after EcmaArray x e =
      let j = steps (uint 4 x) _ e in let i = wrapped (object_of f j.rest) (λ ps. object (plainly ps)) j.two in kind-of _ i.means
  told-after StrictArray x e =
      let j = steps (uint 4 x) _ e in let i = wrapped (values f j.what j.rest) strict j.two in kind-of _ i.means

pub told : (d : ℕ) (s x : List ℕ) {v : Value} {r : List ℕ} → value (suc d) x ≡ got v r → kind_at s x ≡ Ok (kind_of s v r)
unfolding value kind_at
told d s x {v} {r} e = let i = steps (marker x) _ e in rw i.one (told-after s (value d) v r i.what i.rest i.two)

text-after : (f : List ℕ → Parse Value) (t r : List ℕ) (k : Marker) (x : List ℕ) → content f k x ≡ got (text t) r → text_of x ≡ got t r
unfolding content
text-after f t r Number x e = let i = wrapped (uint 8 x) number e in clash (cc)
text-after f t r Boolean x e = let i = wrapped (uint 1 x) (λ b. boolean (not (eqb b 0))) e in clash (cc)
text-after f t r Text x e = let i = wrapped (text_of x) text e in cc
text-after f t r Object x e = let i = wrapped (object_of f x) (λ ps. object (plainly ps)) e in clash (cc)
text-after f t r Null x e = clash (cc)
text-after f t r Undefined x e = clash (cc)
text-after f t r EcmaArray x e = let j = steps (uint 4 x) _ e in let i = wrapped (object_of f j.rest) (λ ps. object (plainly ps)) j.two in clash (cc)
text-after f t r StrictArray x e = let j = steps (uint 4 x) _ e in let i = wrapped (values f j.what j.rest) strict j.two in clash (cc)

-- the bytes of a text lie where its kind says
pub text-lies : (d : ℕ) (s : List ℕ) (at : ℕ) {t r : List ℕ} → value (suc d) (drop at s) ≡ got (text t) r → part s (place_of s r - length t) (length t) ≡ t
unfolding value
text-lies d s at {t} {r} e =
    let i = steps (marker (drop at s)) _ e in
    let h = text-after (value d) t r i.what i.rest i.two in
    let x : i.rest ≡ drop (at + 1) s = (marker-got (drop at s) i.one).1 ∙ drop-drop 1 at s in
    text-part s (at + 1) (ap text_of (sym x) ∙ h)

-- so the part of s at the place that `kind_at` answers is the text
pub text-told : (d : ℕ) (s : List ℕ) (at : ℕ) {t r : List ℕ} {p : Span} → value (suc d) (drop at s) ≡ got (text t) r
    → Ok (kind.Text p) ≡ kind_at s (drop at s) → part s p.start p.len ≡ t
unfolding kind_of
text-told d s at {t} {r} {p} e k =
    let q : ◌≡◌ {A = Result Kind Malformed} (Ok (kind.Text p)) (Ok (kind.Text (span (place_of s r - length t) (length t)))) = k ∙ told d s (drop at s) e in
    let i : p ≡ span (place_of s r - length t) (length t) = cc in
    rw i (text-lies d s at e)

-- the kind at a place, by its marker
pub kind-is : (s : List ℕ) (at : ℕ) {k : Marker} → MarkerRead s at k → kind_after s k (drop (at + 1) s) ≡ kind_at s (drop at s)
unfolding kind_at
kind-is s at m = rw m.is

pub kind-none : (s : List ℕ) (at : ℕ) → marker (drop at s) ≡ bad → Err malformed ≡ kind_at s (drop at s)
unfolding kind_at
kind-none s at e = rw e
