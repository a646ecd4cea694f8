-- From what was read at a place of s to the value that is read there: a text, a Number, or any. And where a text lies.
-- Assumes nothing.
use Prim.Native.Nat.{ℕ, suc, ◌+◌, ◌-◌, ◌≤◌}
use native.Mathlib.Omega.{arith}
use mathlib.Core.Path.{◌≡◌, refl, sym, ap, ◌∙◌}
use mathlib.Core.List.{List}
use lib.ListN.{length, drop, length-drop, length-take}
use Rattle.std.specs.Prelude.{Option, Some, None, Result, Ok, Err}
use Rattle.octets.specs.Parse.{bad, got, and_then, place_of}
use Rattle.octets.specs.Compare.{part}
use Rattle.amf0.specs.Value.{Value, number, boolean, text, object, null, undefined, strict}
use Rattle.amf0.specs.Decode.{value, top_value}
use Rattle.amf0.specs.Places.{kind_of, only_text, only_number, text_told}
use Rattle.octets.specs.declared.span.Span.{Span}
use Rattle.amf0.proofs.CutLaws.{clash}
use Rattle.amf0.proofs.KindLaws.{text-lies as text-part}
use Rattle.amf0.specs.declared.kinds.Kind.{Kind}
use Rattle.amf0.specs.declared.read.Malformed.{Malformed}
use Rattle.reader.proofs.TakenLaws.{ReadAt, none, one}
use Rattle.messages.specs.Incoming.{text_only, number_only}

-- the text t lies in s from `start` on
pub record Lies (s : List ℕ) (start : ℕ) (t : List ℕ) : Type 0 where
  pub within : start + length t ≤ length s
  pub is : part s start (length t) ≡ t

-- and so does a text that is read, at the place that its kind tells
pub text-lies : (d : ℕ) (s : List ℕ) (at : ℕ) {t r : List ℕ} → value (suc d) (drop at s) ≡ got (text t) r → Lies s (place_of s r - length t) t
text-lies d s at {t} {r} e =
    let i = text-part d s at e in
    let start = place_of s r - length t in
    record { within = omega (arith, ap length i, length-take (length t) (drop start s), length-drop start s); is = i }

-- the value v is read at a place of s, and n is the place after it
pub record ValueRead (s : List ℕ) (at n : ℕ) (v : Value) : Type 0 where
  pub read : top_value (drop at s) ≡ got v (drop n s)
  pub place : place_of s (drop n s) ≡ n

-- the same of a text, with the place that its kind tells
pub record TextRead (s : List ℕ) (at n start len : ℕ) : Type 0 where
  pub bytes : List ℕ
  pub value : ValueRead s at n (text bytes)
  pub starts : place_of s (drop n s) - length bytes ≡ start
  pub long : length bytes ≡ len
  pub is : part s start len ≡ bytes

-- the Number that a kind tells, if there is a kind
abbrev pub number_told : Result Kind Malformed → Option ℕ
number_told (Ok k) = only_number k
number_told (Err d) = None

-- what the text and the Number of a kind say of what was read there
abbrev pub TextThere : List ℕ → ℕ → ℕ → Option Span → Type 0
TextThere s at n None = and_then (top_value (drop at s)) text_only ≡ bad
TextThere s at n (Some p) = TextRead s at n p.start p.len

abbrev pub NumberThere : List ℕ → ℕ → ℕ → Option ℕ → Type 0
NumberThere s at n None = and_then (top_value (drop at s)) number_only ≡ bad
NumberThere s at n (Some x) = ValueRead s at n (number x)

module _ (s : List ℕ) (at : ℕ) where
  module _ (r : List ℕ) (i : r ≡ drop (place_of s r) s) where
    is_read : (v : Value) → top_value (drop at s) ≡ got v r → ValueRead s at (place_of s r) v
    is_read v e = record { read = e ∙ ap (got v) i; place = ap (place_of s) (sym i) }

    text-of : (v : Value) → top_value (drop at s) ≡ got v r → (o : Option Span) → o ≡ only_text (kind_of s v r) → TextThere s at (place_of s r) o
    unfolding kind_of text_only
    text-of (number n) e o q = rw q (rw e)
    text-of (boolean b) e o q = rw q (rw e)
    text-of (text t) e o q =
        rw q
        (record {
          bytes = t;
          value = is_read (text t) e;
          starts = ap (λ (x : List ℕ). place_of s x - length t) (sym i);
          long = refl;
          is = text-part 7 s at e;
        })
    text-of (object ps) e o q = rw q (rw e)
    text-of null e o q = rw q (rw e)
    text-of undefined e o q = rw q (rw e)
    text-of (strict vs) e o q = rw q (rw e)

    number_of : (v : Value) → top_value (drop at s) ≡ got v r → (o : Option ℕ) → o ≡ only_number (kind_of s v r) → NumberThere s at (place_of s r) o
    unfolding kind_of number_only
    number_of (number n) e o q = rw q (is_read (number n) e)
    number_of (boolean b) e o q = rw q (rw e)
    number_of (text t) e o q = rw q (rw e)
    number_of (object ps) e o q = rw q (rw e)
    number_of null e o q = rw q (rw e)
    number_of undefined e o q = rw q (rw e)
    number_of (strict vs) e o q = rw q (rw e)

  pub text-there : {k : Result Kind Malformed} {n : ℕ} → ReadAt s at k n → (o : Option Span) → o ≡ text_told k → TextThere s at n o
  text-there (none e) o q = rw q (rw e)
  text-there (one v r e i l) o q = text-of r i v e o q

  pub number-there : {k : Result Kind Malformed} {n : ℕ} → ReadAt s at k n → (o : Option ℕ) → o ≡ number_told k → NumberThere s at n o
  number-there (none e) o q = rw q (rw e)
  number-there (one v r e i l) o q = number_of r i v e o q

  -- an error tells that there is no value, a kind that there is one
  pub none-there : {k : Result Kind Malformed} {d : Malformed} {n : ℕ} → ReadAt s at k n → k ≡ Err d → top_value (drop at s) ≡ bad
  none-there (none e) q = e
  none-there (one v r e i l) q = clash (cc)

  pub value_there : {k : Result Kind Malformed} {m : Kind} {n : ℕ} → ReadAt s at k n → k ≡ Ok m → (v : Value) × ValueRead s at n v
  value_there (none e) q = clash (cc)
  value_there (one v r e i l) q = (v, is_read r i v e)

-- a value that is read as a text is that text, and so with a Number
pub is-text : (v : Value) (r : List ℕ) {t y : List ℕ} → text_only v r ≡ got t y → (v ≡ text t) × (r ≡ y)
unfolding text_only
is-text (number n) r e = clash (cc)
is-text (boolean b) r e = clash (cc)
is-text (text t) r e = (cc, cc)
is-text (object ps) r e = clash (cc)
is-text null r e = clash (cc)
is-text undefined r e = clash (cc)
is-text (strict vs) r e = clash (cc)

pub is_number : (v : Value) (r : List ℕ) {n : ℕ} {y : List ℕ} → number_only v r ≡ got n y → (v ≡ number n) × (r ≡ y)
unfolding number_only
is_number (number n) r e = (cc, cc)
is_number (boolean b) r e = clash (cc)
is_number (text t) r e = clash (cc)
is_number (object ps) r e = clash (cc)
is_number null r e = clash (cc)
is_number undefined r e = clash (cc)
is_number (strict vs) r e = clash (cc)
