-- Texts and names at a place of s: where they lie, and what `text` and `name` have to answer.
-- Assumes nothing.
use Prim.Native.Nat.{ℕ, ◌+◌, ◌-◌, ◌≤◌, ◌<◌}
use native.Mathlib.Omega.{arith}
use mathlib.Core.Path.{◌≡◌, refl, sym, ap, ◌∙◌}
use mathlib.Core.Bool.{Bool, true, false, cond}
use mathlib.Core.List.{List}
use lib.Dec.{eqb}
use lib.ListN.{length, take, drop, length-drop}
use lib.Seq.{drop-drop, length-take-le}
use borrow.Author.Tests.{eq-eqb, ne_eqb}
use Rattle.std.specs.Prelude.{Ok, Err}
use Rattle.octets.specs.Parse.{Parse, bad, got, field, place_of}
use Rattle.octets.specs.BigEndian.{uint}
use Rattle.octets.specs.Utf8.{utf8}
use Rattle.octets.specs.Compare.{part}
use Rattle.octets.proofs.ParseLaws.{field_at, field-short}
use Rattle.amf0.specs.Decode.{text_of, Name, last, named, end_mark, name_of}
use Rattle.amf0.specs.Names.{named_of}
use Rattle.amf0.specs.Places.{text_place, malformed}
use Rattle.amf0.specs.declared.names.Named.TheVariants.{End, At}
use Rattle.amf0.specs.declared.read.Malformed.{Malformed}
use Rattle.octets.specs.declared.span.Span.{Span}
use Rattle.amf0.proofs.CutLaws.{clash, Field, field-got, uint-got, steps, past-place, cuts-name}
use Rattle.amf0.proofs.PlaceLaws.{UintRead, place_at}
use Rattle.octets.specs.Span.{span}

-- the text t at `at`, with r after it
pub record TextRead (s : List ℕ) (at : ℕ) (t r : List ℕ) : Type 0 where
  pub within : at + 2 + length t ≤ length s
  pub lies : t ≡ part s (at + 2) (length t)
  pub rest : r ≡ drop (at + 2 + length t) s

pub text-read : (s : List ℕ) (at : ℕ) {t r : List ℕ} → text_of (drop at s) ≡ got t r → TextRead s at t r
unfolding text_of
text-read s at {t} {r} e =
    let i = steps (uint 2 (drop at s)) _ e in
    let j = steps (field i.what i.rest) _ i.two in
    go _ _ _ _ _ (utf8 j.what) (uint-got 2 (drop at s) i.one).1 (field-got i.what i.rest j.one) j.two
  where
    go : (n : ℕ) (h y a z : List ℕ) (b : Bool) → Field 2 (drop at s) h y → Field n y a z → cond b (got a z) bad ≡ got t r → TextRead s at t r
    go n h y a z true f g q =
        let y-at : y ≡ drop (at + 2) s = f.rest ∙ drop-drop 2 at s in
        let t-is : t ≡ take n (drop (at + 2) s) = rw (← y-at) (cc g.bytes) in
        let r-is : r ≡ drop n (drop (at + 2) s) = rw (← y-at) (cc g.rest) in
        let fits : n ≤ length (drop (at + 2) s) = rw (← y-at) g.fits in
        let long : length t ≡ n = ap length t-is ∙ length-take-le n (drop (at + 2) s) fits in
        record {
          within = omega (arith, length-drop at s, length-drop (at + 2) s, f.fits);
          lies = rw long t-is;
          rest = rw (long, ← drop-drop n (at + 2) s) r-is;
        }
    go n h y a z false f g q = clash (cc)

pub text-start : (s : List ℕ) (at : ℕ) {t r : List ℕ} → TextRead s at t r → place_of s r - length t ≡ at + 2
text-start s at {t} h = omega (arith, h.within, ap length h.rest, length-drop (at + 2 + length t) s)

-- the bytes at its place are the text
pub text-part : (s : List ℕ) (at : ℕ) {t r : List ℕ} → text_of (drop at s) ≡ got t r → part s (place_of s r - length t) (length t) ≡ t
text-part s at e = let h = text-read s at e in rw (text-start s at h) (sym h.lies)

-- the place that `text` answers
pub record TextPlace (s : List ℕ) (at start len : ℕ) : Type 0 where
  pub is : text_of (drop at s) ≡ got (part s start len) (drop (start + len) s)
  pub starts : start ≡ at + 2
  pub within : start + len ≤ length s
  pub long : length (part s start len) ≡ len

placed : (s : List ℕ) (at start len : ℕ) {t r : List ℕ} → text_of (drop at s) ≡ got t r → start ≡ place_of s r - length t → len ≡ length t
    → TextPlace s at start len
placed s at start len {t} {r} e p n =
    let h = text-read s at e in
    let b : start ≡ at + 2 = p ∙ text-start s at h in
    let l : t ≡ part s start len = rw (b, n) h.lies in
    let d : r ≡ drop (start + len) s = rw (b, n) h.rest in
    record { is = e ∙ cc; starts = b; within = omega (arith, h.within); long = rw (← l) (sym n) }

pub text-place : (s : List ℕ) (at : ℕ) (p : Span) → Ok p ≡ text_place s (text_of (drop at s)) → TextPlace s at p.start p.len
unfolding text_place
text-place s at p e = go (text_of (drop at s)) refl e
  where
    go : (q : Parse (List ℕ)) → text_of (drop at s) ≡ q → Ok p ≡ text_place s q → TextPlace s at p.start p.len
    go bad q e = clash (cc)
    go (got t r) q e =
        let i : p ≡ span (place_of s r - length t) (length t) = cc in
        placed s at p.start p.len q (ap (λ (x : Span). x.start) i) (ap (λ (x : Span). x.len) i)

pub no_text : {d : Malformed} (s : List ℕ) (p : Parse (List ℕ)) → Err d ≡ text_place s p → p ≡ bad
unfolding text_place
no_text s bad e = refl
no_text s (got t r) e = clash (cc)

-- what `text` has to answer
module _ (s : List ℕ) (at : ℕ) where
  pub text-bad : text_of (drop at s) ≡ bad → Err malformed ≡ text_place s (text_of (drop at s))
  unfolding text_place
  text-bad e = rw e

  pub text-none : uint 2 (drop at s) ≡ bad → text_of (drop at s) ≡ bad
  unfolding text_of
  text-none e = rw e

  module _ (n : ℕ) (u : UintRead 2 s at n) where
    pub text-short : length s - (at + 2) < n → text_of (drop at s) ≡ bad
    unfolding text_of
    text-short h = rw (u.is, field-short n s (at + 2) h)

    module _ (h : n ≤ length s - (at + 2)) where
      text-is : text_of (drop at s) ≡ cond (utf8 (part s (at + 2) n)) (got (part s (at + 2) n) (drop (at + 2 + n) s)) bad
      unfolding text_of
      text-is = rw (u.is, field_at n s (at + 2) h)

      pub text-wrong : utf8 (part s (at + 2) n) ≡ false → text_of (drop at s) ≡ bad
      text-wrong t = text-is ∙ rw t

      pub text-good : utf8 (part s (at + 2) n) ≡ true → Ok (span (at + 2) n) ≡ text_place s (text_of (drop at s))
      unfolding text_place
      text-good t =
          let l : length (part s (at + 2) n) ≡ n = length-take-le n (drop (at + 2) s) (omega (arith, length-drop (at + 2) s)) in
          let p : place_of s (drop (at + 2 + n) s) - length (part s (at + 2) n) ≡ at + 2 = omega (arith, u.within, length-drop (at + 2 + n) s) in
          rw (text-is, t) (cc)

-- names
name-text : (x : List ℕ) {n r : List ℕ} → name_of x ≡ got (named n) r → text_of x ≡ got n r
unfolding name_of
name-text x {n} {r} e = let i = steps (text_of x) _ e in i.one ∙ go i.what i.rest (eqb (length i.what) 0) i.two
  where
    no_end : (m : ℕ) (y : List ℕ) (b : Bool) → cond b (got last y) bad ≡ got (named n) r → ⊥
    no_end m y true e = clash (cc)
    no_end m y false e = clash (cc)

    go : (t y : List ℕ) (b : Bool) → cond b (end_mark y) (got (named t) y) ≡ got (named n) r → got t y ≡ got n r
    go t y true e = let i = steps (uint 1 y) _ e in absurd (no_end i.what i.rest (eqb i.what 0x09) i.two)
    go t y false e = cc

-- the place of a name that `name` answers
pub record NamePlace (s : List ℕ) (at start len : ℕ) : Type 0 where
  pub is : name_of (drop at s) ≡ got (named (part s start len)) (drop (start + len) s)
  pub past : at < start
  pub within : start + len ≤ length s

pub name-place : (s : List ℕ) (at : ℕ) (p : Span) → Ok (At p) ≡ named_of s (name_of (drop at s)) → NamePlace s at p.start p.len
unfolding named_of
name-place s at p e = go (name_of (drop at s)) refl e
  where
    go : (q : Parse Name) → name_of (drop at s) ≡ q → Ok (At p) ≡ named_of s q → NamePlace s at p.start p.len
    go bad q e = clash (cc)
    go (got last r) q e = clash (cc)
    go (got (named n) r) q e =
        let t = name-text (drop at s) q in
        let i : p ≡ span (place_of s r - length n) (length n) = cc in
        let h = placed s at p.start p.len t (ap (λ (x : Span). x.start) i) (ap (λ (x : Span). x.len) i) in
        record { is = q ∙ cc (h.is, t); past = omega (arith, h.starts); within = h.within }

pub name-last : (s : List ℕ) (at e : ℕ) → Ok (End e) ≡ named_of s (name_of (drop at s)) → (name_of (drop at s) ≡ got last (drop e s)) × (e ≤ length s)
unfolding named_of
name-last s at e h = go (name_of (drop at s)) refl h
  where
    go : (p : Parse Name) → name_of (drop at s) ≡ p → Ok (End e) ≡ named_of s p → (name_of (drop at s) ≡ got last (drop e s)) × (e ≤ length s)
    go bad q h = clash (cc)
    go (got last r) q h =
        let i : e ≡ place_of s r = cc in
        (q ∙ ap (got last) (rw i (past-place s at ((cuts-name (drop at s)).cut q))), omega arith)
    go (got (named n) r) q h = clash (cc)

pub no_name : {d : Malformed} (s : List ℕ) (p : Parse Name) → Err d ≡ named_of s p → p ≡ bad
unfolding named_of
no_name s bad e = refl
no_name s (got last r) e = clash (cc)
no_name s (got (named n) r) e = clash (cc)

-- what `name` has to answer
module _ (s : List ℕ) (at : ℕ) where
  pub name-bad : name_of (drop at s) ≡ bad → Err malformed ≡ named_of s (name_of (drop at s))
  unfolding named_of
  name-bad e = rw e

  pub no-text-name : text_of (drop at s) ≡ bad → name_of (drop at s) ≡ bad
  unfolding name_of
  no-text-name e = rw e

  module _ (p : Span) (h : TextPlace s at p.start p.len) where
    pub name-good : 0 < p.len → Ok (At p) ≡ named_of s (name_of (drop at s))
    unfolding name_of named_of
    name-good l =
        let b : eqb (length (part s p.start p.len)) 0 ≡ false = ne_eqb (length (part s p.start p.len)) 0 (λ e. omega arith) in
        let q : place_of s (drop (p.start + p.len) s) - length (part s p.start p.len) ≡ p.start = omega (arith, length-drop (p.start + p.len) s) in
        rw (h.is, b) (rw (q, h.long))

    name-end : p.len ≤ 0 → name_of (drop at s) ≡ end_mark (drop p.start s)
    unfolding name_of
    name-end l =
        let b : eqb (length (part s p.start p.len)) 0 ≡ true = eq-eqb (length (part s p.start p.len)) 0 (omega arith) in
        let e : p.start + p.len ≡ p.start = omega arith in
        rw (h.is, b, e)

    pub end_short : p.len ≤ 0 → uint 1 (drop p.start s) ≡ bad → name_of (drop at s) ≡ bad
    end_short l e = name-end l ∙ rw e

    module _ (l : p.len ≤ 0) (m : ℕ) (u : UintRead 1 s p.start m) where
      pub end-wrong : (m ≡ 0x09 → ⊥) → name_of (drop at s) ≡ bad
      end-wrong e = name-end l ∙ rw (u.is, ne_eqb _ _ e)

      pub end-good : m ≡ 0x09 → Ok (End (p.start + 1)) ≡ named_of s (name_of (drop at s))
      unfolding named_of
      end-good e = rw (name-end l, u.is, e) (ap (λ (k : ℕ). Ok (End k)) (sym (place_at s (p.start + 1) (omega (arith, u.within)))))
