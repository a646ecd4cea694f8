-- What a reading leaves is a last part of what it began with, short of it by as many bytes at least as the reading takes.
-- Assumes nothing.
use Prim.Native.Nat.{ℕ, zero, suc, ◌+◌, ◌≤◌, ◌<◌}
use native.Mathlib.Omega.{arith}
use mathlib.Core.Path.{◌≡◌, refl, ap, ◌∙◌}
use mathlib.Core.Bool.{Bool, true, false, cond}
use mathlib.Core.List.{List}
use lib.Dec.{leb, eqb}
use lib.ListN.{length, take, drop, length-drop, drop_of_length-le}
use lib.Seq.{drop-drop, drop-length}
use borrow.Author.Tests.{leb-true, leb-false}
use Rattle.std.specs.Prelude.{Result, Ok, Err}
use Rattle.octets.specs.Parse.{Parse, bad, got, and_then, field, place_of}
use Rattle.octets.specs.BigEndian.{be, uint}
use Rattle.octets.specs.Utf8.{utf8}
use Rattle.amf0.specs.Value.{Value}
use Rattle.amf0.specs.Decode.{text_of, Property, Name, last, named, name_of, property_after, properties, values, content, marker_of, coded, marker, value}
use Rattle.amf0.specs.declared.marker.Marker.{Marker}
use Rattle.amf0.specs.declared.marker.Marker.TheVariants.{Number, Boolean, Text, Object, Null, Undefined, EcmaArray, StrictArray}
use Rattle.amf0.specs.declared.read.Malformed.{Malformed}

-- two constructors that are said to be equal
pub clash : {A : Type 0} → ◌≡◌ {A = ℕ} 0 1 → A
clash e = absurd (omega arith)

-- r is s less its first bytes, m of them or more
pub record Past (m : ℕ) (s r : List ℕ) : Type 0 where
  pub by : ℕ
  pub least : m ≤ by
  pub most : by ≤ length s
  pub is : r ≡ drop by s

pub past-none : (s : List ℕ) → Past 0 s s
past-none s = record { by = 0; least = omega arith; most = omega arith; is = refl }

pub past-past : {m n : ℕ} {s r t : List ℕ} → Past m s r → Past n r t → Past (m + n) s t
past-past {s = s} p q = record {
  by = p.by + q.by;
  least = omega arith;
  most = omega (arith, ap length p.is, length-drop p.by s);
  is = q.is ∙ ap (drop q.by) p.is ∙ drop-drop q.by p.by s;
}

pub past-less : {m : ℕ} (n : ℕ) {s r : List ℕ} → n ≤ m → Past m s r → Past n s r
past-less n h p = record { by = p.by; least = omega arith; most = p.most; is = p.is }

-- a last part of s is s from its place on
last-part : (s w : List ℕ) (j : ℕ) → w ≡ drop j s → w ≡ drop (place_of s w) s
last-part s w j e = go (leb j (length s)) refl
  where
    go : (b : Bool) → leb j (length s) ≡ b → w ≡ drop (place_of s w) s
    go true t =
        let l : j ≤ length s = leb-true _ _ t in
        let q : place_of s w ≡ j = omega (arith, ap length e, length-drop j s) in
        rw q e
    go false t =
        let l : length s ≤ j = omega (arith, leb-false j (length s) t) in
        let q : place_of s w ≡ length s = omega (arith, ap length e, length-drop j s) in
        rw (q, drop-length) (e ∙ drop_of_length-le s l)

pub past-place : {m : ℕ} (s : List ℕ) (at : ℕ) {w : List ℕ} → Past m (drop at s) w → w ≡ drop (place_of s w) s
past-place s at {w} h = last-part s w (at + h.by) (h.is ∙ drop-drop h.by at s)

-- a reading in two steps that found something
pub record Steps {A B : Type 0} (p : Parse A) (k : A → List ℕ → Parse B) (b : B) (t : List ℕ) : Type 0 where
  pub what : A
  pub rest : List ℕ
  pub one : p ≡ got what rest
  pub two : k what rest ≡ got b t

pub steps : {A B : Type 0} (p : Parse A) (k : A → List ℕ → Parse B) {b : B} {t : List ℕ} → and_then p k ≡ got b t → Steps p k b t
steps bad k e = clash (cc)
steps (got a r) k e = record { what = a; rest = r; one = refl; two = e }

-- a reading whose meaning is wrapped up
pub record Wrapped {A B : Type 0} (p : Parse A) (g : A → B) (b : B) (t : List ℕ) : Type 0 where
  pub what : A
  pub is : p ≡ got what t
  pub means : g what ≡ b

pub wrapped : {A B : Type 0} (p : Parse A) (g : A → B) {b : B} {t : List ℕ} → and_then p (λ a r. got (g a) r) ≡ got b t → Wrapped p g b t
wrapped bad g e = clash (cc)
wrapped (got a r) g e = record { what = a; is = cc; means = cc }

-- a reader that takes m bytes of s or more
pub record Cuts {A : Type 0} (m : ℕ) (s : List ℕ) (p : Parse A) : Type 0 where
  pub cut : {a : A} {r : List ℕ} → p ≡ got a r → Past m s r

pub cuts-bad : {A : Type 0} (m : ℕ) (s : List ℕ) → Cuts {A = A} m s bad
cuts-bad m s = record { cut = λ e. clash (cc) }

pub cuts-got : {A : Type 0} (a : A) (s : List ℕ) → Cuts 0 s (got a s)
cuts-got a s = record { cut = λ {a} {r} e. let q : s ≡ r = cc in rw q (past-none _) }

pub cuts_then : {A B : Type 0} (m : ℕ) {n : ℕ} {s : List ℕ} {p : Parse A} {k : A → List ℕ → Parse B}
    → Cuts m s p → ((a : A) (r : List ℕ) → Cuts n r (k a r)) → Cuts (m + n) s (and_then p k)
cuts_then m {p = p} {k} h g = record { cut = λ e. let i = steps p k e in past-past (h.cut i.one) ((g i.what i.rest).cut i.two) }

pub cuts_less : {A : Type 0} {m : ℕ} (n : ℕ) {s : List ℕ} {p : Parse A} → n ≤ m → Cuts m s p → Cuts n s p
cuts_less n l h = record { cut = λ e. past-less n l (h.cut e) }

pub cuts_any : {A : Type 0} {m : ℕ} {s : List ℕ} {p : Parse A} → Cuts m s p → Cuts 0 s p
cuts_any = cuts_less 0 (omega arith)

cuts_cond : {A : Type 0} {m : ℕ} {s : List ℕ} {p q : Parse A} (b : Bool) → Cuts m s p → Cuts m s q → Cuts m s (cond b p q)
cuts_cond true h i = h
cuts_cond false h i = i

-- n bytes that are there
pub record Field (n : ℕ) (s a r : List ℕ) : Type 0 where
  pub fits : n ≤ length s
  pub bytes : a ≡ take n s
  pub rest : r ≡ drop n s

pub field-got : (n : ℕ) (s : List ℕ) {a r : List ℕ} → field n s ≡ got a r → Field n s a r
unfolding field
field-got n s e = go (leb n (length s)) refl e
  where
    go : {a r : List ℕ} (b : Bool) → leb n (length s) ≡ b → cond b (got (take n s) (drop n s)) bad ≡ got a r → Field n s a r
    go true t e = record { fits = leb-true _ _ t; bytes = cc; rest = cc }
    go false t e = clash (cc)

pub cuts-field : (n : ℕ) (s : List ℕ) → Cuts n s (field n s)
cuts-field n s = record { cut = λ e. let f = field-got n s e in record { by = n; least = omega arith; most = f.fits; is = f.rest } }

pub uint-got : (n : ℕ) (s : List ℕ) {x : ℕ} {r : List ℕ} → uint n s ≡ got x r → (a : List ℕ) × Field n s a r
unfolding uint
uint-got n s e = let i = wrapped (field n s) be e in (i.what, field-got n s i.is)

pub cuts-uint : (n : ℕ) (s : List ℕ) → Cuts n s (uint n s)
unfolding uint
cuts-uint n s = cuts_less n (omega arith) (cuts_then n (cuts-field n s) (λ b r. cuts-got _ r))

-- a code takes no further byte, so a marker is a byte
pub coded-left : {A : Type 0} (o : Result A Malformed) (x : List ℕ) {k : A} {r : List ℕ} → coded o x ≡ got k r → r ≡ x
coded-left (Ok m) x e = cc
coded-left (Err d) x e = clash (cc)

pub marker-got : (s : List ℕ) {k : Marker} {r : List ℕ} → marker s ≡ got k r → (1 ≤ length s) × (r ≡ drop 1 s)
unfolding marker
marker-got s e =
    let i = steps (uint 1 s) _ e in
    let f = (uint-got 1 s i.one).1 in
    (f.fits, coded-left (marker_of i.what) i.rest i.two ∙ f.rest)

pub cuts-marker : (s : List ℕ) → Cuts 1 s (marker s)
cuts-marker s = record { cut = λ e. let f = marker-got s e in record { by = 1; least = omega arith; most = f.0; is = f.1 } }

pub cuts-text : (s : List ℕ) → Cuts 2 s (text_of s)
unfolding text_of
cuts-text s =
    cuts_then 2 (cuts-uint 2 s) (λ n r. cuts_then 0 (cuts_any (cuts-field n r)) (λ t r2. cuts_cond (utf8 t) (cuts-got t r2) (cuts-bad 0 r2)))

pub cuts-name : (s : List ℕ) → Cuts 2 s (name_of s)
unfolding name_of
cuts-name s =
    cuts_then 2 (cuts-text s) (λ n r.
    cuts_cond (eqb (length n) 0)
    (cuts_any (cuts_then 1 (cuts-uint 1 r) (λ m r2. cuts_cond (eqb m 0x09) (cuts-got last r2) (cuts-bad 0 r2))))
    (cuts-got (named n) r))

module _ (f : List ℕ → Parse Value) (hf : (s : List ℕ) → Cuts 1 s (f s)) where
  cuts-after : (more : List ℕ → Parse (List Property)) → ((s : List ℕ) → Cuts 2 s (more s)) → (n : Name) (r : List ℕ) → Cuts 0 r (property_after f more n r)
  cuts-after more h last r = cuts-got _ r
  cuts-after more h (named n) r = cuts_then 0 (cuts_any (hf r)) (λ v r2. cuts_then 0 (cuts_any (h r2)) (λ ps r3. cuts-got _ r3))

  pub cuts-properties : (k : ℕ) (s : List ℕ) → Cuts 2 s (properties f k s)
  unfolding properties
  cuts-properties zero s = cuts-bad 2 s
  cuts-properties (suc k) s = cuts_then 2 (cuts-name s) (cuts-after (properties f k) (cuts-properties k))

  pub cuts-values : (n : ℕ) (s : List ℕ) → Cuts 0 s (values f n s)
  unfolding values
  cuts-values zero s = cuts-got _ s
  cuts-values (suc n) s = cuts_then 0 (cuts_any (hf s)) (λ v r. cuts_then 0 (cuts-values n r) (λ vs r2. cuts-got _ r2))

  cuts-content : (k : Marker) (s : List ℕ) → Cuts 0 s (content f k s)
  unfolding content
  cuts-content Number s = cuts_then 0 (cuts_any (cuts-uint 8 s)) (λ n r. cuts-got _ r)
  cuts-content Boolean s = cuts_then 0 (cuts_any (cuts-uint 1 s)) (λ n r. cuts-got _ r)
  cuts-content Text s = cuts_then 0 (cuts_any (cuts-text s)) (λ n r. cuts-got _ r)
  cuts-content Object s = cuts_then 0 (cuts_any (cuts-properties _ s)) (λ ps r. cuts-got _ r)
  cuts-content Null s = cuts-got _ s
  cuts-content Undefined s = cuts-got _ s
  cuts-content EcmaArray s =
      cuts_then 0 (cuts_any (cuts-uint 4 s)) (λ n r. cuts_then 0 (cuts_any (cuts-properties _ r)) (λ ps r2. cuts-got _ r2))
  cuts-content StrictArray s =
      cuts_then 0 (cuts_any (cuts-uint 4 s)) (λ n r. cuts_then 0 (cuts-values n r) (λ vs r2. cuts-got _ r2))

pub cuts-value : (d : ℕ) (s : List ℕ) → Cuts 1 s (value d s)
unfolding value
cuts-value zero s = cuts-bad 1 s
cuts-value (suc d) s = cuts_then 1 (cuts-marker s) (cuts-content (value d) (cuts-value d))

pub past-length : {m : ℕ} {s r : List ℕ} → Past m s r → length r + m ≤ length s
past-length {s = s} p = omega (arith, ap length p.is, length-drop p.by s)

-- there is nothing where there are too few bytes
pub cuts_short : {A : Type 0} {m : ℕ} {s : List ℕ} (p : Parse A) → Cuts m s p → length s < m → p ≡ bad
cuts_short bad h l = refl
cuts_short (got a r) h l = absurd (omega (arith, past-length (h.cut refl)))
