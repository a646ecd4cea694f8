-- The property that is found holds the value that a decoded value has under that name, and stands where that value is read again.
-- Assumes nothing.
use Prim.Native.Nat.{ℕ, zero, suc, ◌≤◌}
use native.Mathlib.Omega.{arith}
use mathlib.Core.Path.{◌≡◌, refl, sym, ap, ◌∙◌}
use mathlib.Core.Bool.{Bool, true, false, cond, not}
use mathlib.Core.List.{List, [], ◌∷◌}
use lib.Dec.{eqb}
use lib.ListN.{length, drop}
use Rattle.std.specs.Prelude.{Option, Some, None, Result, Ok}
use Rattle.std.specs.Option.{option_map}
use Rattle.octets.specs.Parse.{Parse, got, and_then, place_of}
use Rattle.octets.specs.BigEndian.{uint}
use Rattle.octets.specs.Compare.{same}
use Rattle.amf0.specs.Value.{Value, number, boolean, text, object, null, undefined, strict}
use Rattle.amf0.specs.Decode.{Name, last, named, Property, plainly, text_of, name_of, property_after, properties, object_of, values, content, marker, value, top_value}
use Rattle.amf0.specs.Lookup.{or_else, last_of, lookup, property, properties_of, properties_at}
use Rattle.amf0.specs.Places.{kind_of, found_at, found_of, only_text, text_found, text_of_property, stretch}
use Rattle.amf0.specs.declared.marker.Marker.{Marker}
use Rattle.amf0.specs.declared.marker.Marker.TheVariants.{Number, Boolean, Text, Object, Null, Undefined, EcmaArray, StrictArray}
use Rattle.amf0.specs.declared.read.Malformed.{Malformed}
use Rattle.amf0.proofs.CutLaws.{clash, Past, past-none, past-past, past-less, past-place, steps, wrapped, Cuts, cuts-uint, cuts-marker, cuts-name, cuts-value}
use Rattle.amf0.proofs.KindLaws.{told, text-lies}

pub lookup-last : (name : List ℕ) (ps : List Property) → lookup name (plainly ps) ≡ option_map (λ p. p.value) (last_of name ps)
unfolding lookup last_of
lookup-last name [] = refl
lookup-last name (p ∷ ps) = rw (lookup-last name ps) (go (last_of name ps) (same p.name name))
  where
    go : (o : Option Property) (b : Bool)
        → or_else (option_map (λ q. q.value) o) (cond b (Some p.value) None) ≡ option_map (λ q. q.value) (or_else o (cond b (Some p) None))
    go (Some q) b = refl
    go None true = refl
    go None false = refl

-- a property that was read in s: f reads its value again from its place on, and that place is in s
pub record Stands (f : List ℕ → Parse Value) (s : List ℕ) (p : Property) : Type 0 where
  pub rest : List ℕ
  pub read : f p.from ≡ got p.value rest
  pub place : Past 0 s p.from

stands-in : {m : ℕ} {f : List ℕ → Parse Value} {s r : List ℕ} {p : Property} → Past m s r → Stands f r p → Stands f s p
stands-in h t = record { rest = t.rest; read = t.read; place = past-less 0 (omega arith) (past-past h t.place) }

module _ (name : List ℕ) (f : List ℕ → Parse Value) (hf : (s : List ℕ) → Cuts 1 s (f s)) where
  stands-none : {x s r : List ℕ} {ps : List Property} {p : Property} → got [] x ≡ got ps r → last_of name ps ≡ Some p → Stands f s p
  unfolding last_of
  stands-none {ps = ps} {p} e l =
      let q : [] ≡ ps = cc in
      let z : None ≡ Some p = ap (last_of name) q ∙ l in
      clash (cc)

  stands_after : (more : List ℕ → Parse (List Property)) (p : Property)
      → ((s : List ℕ) (ps : List Property) (r : List ℕ) → more s ≡ got ps r → last_of name ps ≡ Some p → Stands f s p)
      → (n : Name) (s : List ℕ) (ps : List Property) (r : List ℕ) → property_after f more n s ≡ got ps r → last_of name ps ≡ Some p → Stands f s p
  unfolding last_of
  stands_after more p ih last s ps r e l = stands-none e l
  stands_after more p ih (named n) s ps r e l =
      let i = steps (f s) _ e in
      let j = wrapped (more i.rest) (λ ps. record { name = n; value = i.what; from = s } ∷ ps) i.two in
      go _ _ j.what i.one (ih i.rest j.what r j.is) (last_of name j.what) refl (same n name) (ap (last_of name) j.means ∙ l)
    where
      go : (v : Value) (r : List ℕ) (qs : List Property) → f s ≡ got v r → (last_of name qs ≡ Some p → Stands f r p) → (o : Option Property)
          → last_of name qs ≡ o
          → (b : Bool) → or_else o (cond b (Some (record { name = n; value = v; from = s })) None) ≡ Some p → Stands f s p
      go v r qs e ih (Some q) l b h = stands-in ((hf s).cut e) (ih (l ∙ h))
      go v r qs e ih None l true h =
          let q : record { name = n; value = v; from = s } ≡ p = cc in
          rw (← q) (record { rest = r; read = e; place = past-none s })
      go v r qs e ih None l false h = clash (cc)

  pub last-stands : (p : Property) (k : ℕ) (s : List ℕ) (ps : List Property) (r : List ℕ) → properties f k s ≡ got ps r → last_of name ps ≡ Some p
      → Stands f s p
  unfolding properties
  last-stands p zero s ps r e l = clash (cc)
  last-stands p (suc k) s ps r e l =
      let i = steps (name_of s) _ e in
      stands-in ((cuts-name s).cut i.one) (stands_after (properties f k) p (last-stands p k) i.what i.rest ps r i.two l)

module _ (name : List ℕ) where
  stands-object : (p : Property) (s : List ℕ) (ps : List Property) (r : List ℕ) → object_of (value 7) s ≡ got ps r → last_of name ps ≡ Some p
      → Stands (value 7) s p
  stands-object p s = last-stands name (value 7) (cuts-value 7) p (length s) s

  stands_of : (p : Property) (k : Marker) (s : List ℕ) (ps : List Property) (r : List ℕ) → properties_of k s ≡ got ps r → last_of name ps ≡ Some p
      → Stands (value 7) s p
  unfolding properties_of
  stands_of p Number s ps r e l = stands-none name (value 7) (cuts-value 7) e l
  stands_of p Boolean s ps r e l = stands-none name (value 7) (cuts-value 7) e l
  stands_of p Text s ps r e l = stands-none name (value 7) (cuts-value 7) e l
  stands_of p Object s ps r e l = stands-object p s ps r e l
  stands_of p Null s ps r e l = stands-none name (value 7) (cuts-value 7) e l
  stands_of p Undefined s ps r e l = stands-none name (value 7) (cuts-value 7) e l
  stands_of p EcmaArray s ps r e l =
      let i = steps (uint 4 s) _ e in stands-in ((cuts-uint 4 s).cut i.one) (stands-object p i.rest ps r i.two l)
  stands_of p StrictArray s ps r e l = stands-none name (value 7) (cuts-value 7) e l

  -- the property that is found among those of the value at the front
  pub found-stands : (p : Property) (s : List ℕ) {ps : List Property} {r : List ℕ} → properties_at s ≡ got ps r → last_of name ps ≡ Some p
      → Stands (value 7) s p
  unfolding properties_at
  found-stands p s {ps} {r} e l =
      let i = steps (marker s) _ e in stands-in ((cuts-marker s).cut i.one) (stands_of p i.what i.rest ps r i.two l)

  -- the located properties q of a value
  pub record Located (v : Value) (q : Parse (List Property)) : Type 0 where
    pub props : List Property
    pub rest : List ℕ
    pub is : q ≡ got props rest
    pub looked : property name v ≡ option_map (λ p. p.value) (last_of name props)

  no-property : (s : List ℕ) {v : Value} (w : Value) → w ≡ v → property name w ≡ None → Located v (got [] s)
  unfolding last_of
  no-property s w e n = record { props = []; rest = s; is = refl; looked = ap (property name) (sym e) ∙ n }

  object-of : (s : List ℕ) {v : Value} {r : List ℕ} → and_then (object_of (value 7) s) (λ ps r. got (object (plainly ps)) r) ≡ got v r
      → Located v (object_of (value 7) s)
  unfolding property
  object-of s {v} {r} e =
      let i = wrapped (object_of (value 7) s) (λ ps. object (plainly ps)) e in
      record { props = i.what; rest = r; is = i.is; looked = ap (property name) (sym i.means) ∙ lookup-last name i.what }

  located_of : (k : Marker) (s : List ℕ) (v : Value) (r : List ℕ) → content (value 7) k s ≡ got v r → Located v (properties_of k s)
  unfolding content properties_of property
  located_of Number s v r e = let i = wrapped (uint 8 s) number e in no-property s _ i.means refl
  located_of Boolean s v r e = let i = wrapped (uint 1 s) (λ b. boolean (not (eqb b 0))) e in no-property s _ i.means refl
  located_of Text s v r e = let i = wrapped (text_of s) text e in no-property s _ i.means refl
  located_of Object s v r e = object-of s e
  located_of Null s v r e = no-property s null (cc) refl
  located_of Undefined s v r e = no-property s undefined (cc) refl
  located_of EcmaArray s v r e = let j = steps (uint 4 s) _ e in rw j.one (object-of j.rest j.two)
  located_of StrictArray s v r e =
      let j = steps (uint 4 s) _ e in let i = wrapped (values (value 7) j.what j.rest) strict j.two in no-property s _ i.means refl

  pub located : (s : List ℕ) {v : Value} {r : List ℕ} → top_value s ≡ got v r → Located v (properties_at s)
  unfolding value properties_at
  located s {v} {r} e = let i = steps (marker s) _ e in rw i.one (located_of i.what i.rest v r i.two)

-- Of a property that a value has, a place in s from which its value is read is found, and of one that it has not, that it is absent. There
-- is no third case, so each answer tells which it is.
pub data Answers (s : List ℕ) : Option Value → Result (Option ℕ) Malformed → Type 0 where
  absent : Answers s None (Ok None)
  found-at : (w : Value) (e : ℕ) (r : List ℕ) → e ≤ length s → value 7 (drop e s) ≡ got w r → Answers s (Some w) (Ok (Some e))

-- the text that such a value is, and no bytes of any other
abbrev pub text_in : Option Value → List ℕ
text_in None = []
text_in (Some (text t)) = t
text_in (Some (number n)) = []
text_in (Some (boolean b)) = []
text_in (Some (object ps)) = []
text_in (Some null) = []
text_in (Some undefined) = []
text_in (Some (strict vs)) = []

text-of : (s : List ℕ) (at : ℕ) (v : Value) (r : List ℕ) → value 7 (drop at s) ≡ got v r → stretch s (only_text (kind_of s v r)) ≡ text_in (Some v)
unfolding kind_of stretch
text-of s at (number n) r e = refl
text-of s at (boolean b) r e = refl
text-of s at (text t) r e = text-lies 6 s at e
text-of s at (object ps) r e = refl
text-of s at null r e = refl
text-of s at undefined r e = refl
text-of s at (strict vs) r e = refl

module _ (name s : List ℕ) (at : ℕ) {v : Value} {r : List ℕ} (e : top_value (drop at s) ≡ got v r) where
  -- what `find` answers of a value that is well formed
  pub find-answers : Answers s (property name v) (found_of s name (properties_at (drop at s)))
  unfolding found_of found_at
  find-answers = let h = located name (drop at s) e in rw (h.is, h.looked) (go (last_of name h.props) (λ p. found-stands name p (drop at s) h.is))
    where
      go : (o : Option Property) → ((p : Property) → o ≡ Some p → Stands (value 7) (drop at s) p) → Answers s (option_map (λ p. p.value) o) (Ok (found_at s o))
      go None h = absent
      go (Some p) h =
          let t = h p refl in found-at p.value (place_of s p.from) t.rest (omega arith) (rw (← past-place s at t.place) t.read)

  -- and the bytes that `text_property` hands back
  pub text-answers : stretch s (text_of_property s name (properties_at (drop at s))) ≡ text_in (property name v)
  unfolding text_of_property text_found stretch
  text-answers = let h = located name (drop at s) e in rw (h.is, h.looked) (go (last_of name h.props) (λ p. found-stands name p (drop at s) h.is))
    where
      go : (o : Option Property) → ((p : Property) → o ≡ Some p → Stands (value 7) (drop at s) p)
          → stretch s (text_found s o) ≡ text_in (option_map (λ p. p.value) o)
      go None h = refl
      go (Some p) h =
          let t = h p refl in
          let q = past-place s at t.place in
          rw (told 6 s p.from t.read) (text-of s (place_of s p.from) p.value t.rest (rw (← q) t.read))
