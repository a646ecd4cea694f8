-- A field of an object: its kind is told where the property that is found stands, and by place it is what it is by value.
-- Assumes nothing.
use Prim.Native.Nat.{ℕ, ◌-◌}
use mathlib.Core.Path.{◌≡◌, refl, sym, ap, ◌∙◌}
use mathlib.Core.List.{List, []}
use lib.ListN.{length, drop}
use Rattle.std.specs.Prelude.{Option, Some, None, Result, Ok, Err}
use Rattle.std.specs.Option.{option_map}
use Rattle.std.specs.Result.{result_ok}
use Rattle.octets.specs.Parse.{Parse, bad, got, place_of}
use Rattle.amf0.specs.Value.{Value, number, boolean, text, object, null, undefined, strict}
use Rattle.amf0.specs.Decode.{Property, value, top_value}
use Rattle.amf0.specs.Lookup.{last_of, property, properties_at}
use Rattle.amf0.specs.Places.{kind_at, kind_of, found_at, text_told, text_found, text_of_property}
use Rattle.amf0.specs.declared.kinds.Kind.{Kind}
use Rattle.amf0.specs.declared.read.Malformed.{Malformed}
use Rattle.octets.specs.declared.span.Span.{Span}
use Rattle.amf0.proofs.CutLaws.{clash, past-place}
use Rattle.amf0.proofs.KindLaws.{told}
use Rattle.amf0.proofs.LookupLaws.{Stands, found-stands, located}
use Rattle.messages.specs.Notice.{as_text}
use Rattle.messages.specs.Metadata.{kind_found, field_kind, field_of, kind_there, text_field}
use Rattle.messages.proofs.LeafLaws.{Lies, text-lies}
use Rattle.octets.specs.Span.{span}

-- the kind of what was found, by its place
pub found_there : (name s : List ℕ) (at : ℕ) {ps : List Property} {r : List ℕ} → properties_at (drop at s) ≡ got ps r
    → kind_there s (found_at s (last_of name ps)) ≡ kind_found s (last_of name ps)
unfolding found_at
found_there name s at {ps} e = go (last_of name ps) refl
  where
    go : (p : Option Property) → last_of name ps ≡ p → kind_there s (found_at s p) ≡ kind_found s p
    go None l = refl
    go (Some p) l = ap (λ (x : List ℕ). result_ok (kind_at s x)) (sym (past-place s at (found-stands name p (drop at s) e l).place))

-- The property of a name of a value that is read at a place of s: its kind by place is its kind by value, and a text lies where its kind tells.
pub record FieldStands (s : List ℕ) (o : Option Value) (k : Option Kind) : Type 0 where
  pub rest : List ℕ
  pub is : k ≡ field_of s rest o
  pub lies : (t : List ℕ) → o ≡ Some (text t) → Lies s (place_of s rest - length t) t

module _ (name s : List ℕ) (at : ℕ) {v : Value} {r : List ℕ} (e : top_value (drop at s) ≡ got v r) where
  pub field-stands : FieldStands s (property name v) (field_kind s name (properties_at (drop at s)))
  unfolding field_kind
  field-stands = let h = located name (drop at s) e in rw (h.is, h.looked) (go (last_of name h.props) (λ p. found-stands name p (drop at s) h.is))
    where
      go : (o : Option Property) → ((p : Property) → o ≡ Some p → Stands (value 7) (drop at s) p) → FieldStands s (option_map (λ p. p.value) o) (kind_found s o)
      go None h = record { rest = []; is = refl; lies = λ t q. clash (cc) }
      go (Some p) h =
          let u = h p refl in
          record {
            rest = u.rest;
            is = ap result_ok (told 6 s p.from u.read);
            lies = λ t q.
                let w : p.value ≡ text t = cc in
                text-lies 6 s (place_of s p.from) {r = u.rest} (rw (← past-place s at u.place) (u.read ∙ ap (λ (x : Value). got x u.rest) w));
          }

-- the text that a property holds, with its place
pub data TextStands (s : List ℕ) : Option (List ℕ) → Option Span → Type 0 where
  no_text : TextStands s None None
  text-at : {start : ℕ} {t : List ℕ} → Lies s start t → TextStands s (Some t) (Some (span start (length t)))

text-of-kind : (s : List ℕ) (o : Option Value) (k : Option Kind) → FieldStands s o k → TextStands s (as_text o) (text_field k)
unfolding kind_of
text-of-kind s None k f = rw f.is no_text
text-of-kind s (Some (number n)) k f = rw f.is no_text
text-of-kind s (Some (boolean b)) k f = rw f.is no_text
text-of-kind s (Some (text t)) k f = rw f.is (text-at (f.lies t refl))
text-of-kind s (Some (object ps)) k f = rw f.is no_text
text-of-kind s (Some null) k f = rw f.is no_text
text-of-kind s (Some undefined) k f = rw f.is no_text
text-of-kind s (Some (strict vs)) k f = rw f.is no_text

text-by-kind : (s name : List ℕ) (q : Parse (List Property)) → text_of_property s name q ≡ text_field (field_kind s name q)
unfolding text_of_property text_found field_kind
text-by-kind s name bad = refl
text-by-kind s name (got ps r) = go (last_of name ps)
  where
    by-kind : (k : Result Kind Malformed) → text_told k ≡ text_field (result_ok k)
    by-kind (Ok k) = refl
    by-kind (Err d) = refl

    go : (o : Option Property) → text_found s o ≡ text_field (kind_found s o)
    go None = refl
    go (Some p) = by-kind (kind_at s p.from)

pub text-stands : (name s : List ℕ) (at : ℕ) {v : Value} {r : List ℕ} → top_value (drop at s) ≡ got v r
    → TextStands s (as_text (property name v)) (text_of_property s name (properties_at (drop at s)))
text-stands name s at {v} e =
    let q = properties_at (drop at s) in
    rw (text-by-kind s name q) (text-of-kind s (property name v) (field_kind s name q) (field-stands name s at e))
