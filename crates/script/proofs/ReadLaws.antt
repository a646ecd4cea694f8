-- What is read of the next field, once its end is known.
-- Assumes nothing.
use Rattle.std.proofs.Common.{◌≡◌, ℕ, ◌+◌, ◌<◌, ◌≤◌, List, [], ◌∷◌, length, take, drop, Ok, Err, refl, sym, subst, arith}
use Rattle.std.specs.Option.{ok_or}
use borrow.Author.Tests.{leb-true, leb-false}
use lib.Dec.{leb}
use Rattle.requests.proofs.BoolLaws.{by_cases}
use Rattle.octets.specs.declared.span.Span.{Span}
use Rattle.script.specs.declared.reasons.Why.{Why}
use Rattle.script.specs.declared.reasons.Why.TheVariants.{Missing, Extra, Verb}
use Rattle.script.specs.Fields.{until, Field, span_of, fields_at}
use Rattle.script.specs.Lines.{word_of, text_of, number_of, rest, ended, on, then, settings_of, timestamp, verb_line, call_line, open_line, bare_line}
use Rattle.script.specs.Verbs.{verb_of}
use Rattle.messages.specs.declared.ids.RtmpTimestamp.{RtmpTimestamp}
use Rattle.script.specs.declared.asked.Line.TheVariants.{Empty, OpenDefault, Open}
use Rattle.script.proofs.FieldLaws.{field_at, none-at}

-- past the line's end nothing is left
module _ (s : List ℕ) (next : ℕ) (h : length s < next) where
  pub no_word : word_of (fields_at s next) ≡ Err Missing
  unfolding word_of
  no_word = rw (none-at s next h)

  pub no_rest : fields_at s next ≡ rest (fields_at s next)
  unfolding rest
  no_rest = rw (none-at s next h)

  pub at_end : Ok tt ≡ ended (fields_at s next)
  unfolding ended
  at_end = rw (none-at s next h)

-- else there is one more field
module _ (s : List ℕ) (next u : ℕ) (h : next ≤ length s) (q : u ≡ until 9 (drop next s)) where
  pub word_is : word_of (fields_at s next) ≡ Ok (take u (drop next s))
  unfolding word_of
  word_is = rw (field_at s next u h q)

  pub rest_is : fields_at s (next + (u + 1)) ≡ rest (fields_at s next)
  unfolding rest
  rest_is = rw (field_at s next u h q)

pub one_more : (s : List ℕ) (next : ℕ) → next ≤ length s → Err Extra ≡ ended (fields_at s next)
unfolding ended
one_more s next h = rw (field_at s next (until 9 (drop next s)) h refl)

-- no text where there is no word; and a text's place is that of the word
pub text_err : (fs : List Field) {w : Why} → word_of fs ≡ Err w → text_of fs ≡ Err w
unfolding word_of text_of
text_err [] e = cc
text_err (f ∷ fs) e = cc

-- the first of the fields starts there
abbrev pub Starts : ℕ → List Field → Type 0
Starts next [] = Unit {0}
Starts next (f ∷ fs) = next ≡ f.start

pub starts : (s : List ℕ) (next : ℕ) → Starts next (fields_at s next)
starts s next =
    by_cases (leb next (length s))
    (λ t. subst (Starts next) (sym (field_at s next (until 9 (drop next s)) (leb-true next (length s) t) refl)) refl)
    (λ t. subst (Starts next) (sym (none-at s next (leb-false next (length s) t))) tt)

text_at : (fs : List Field) (next : ℕ) {b : List ℕ} → Starts next fs → word_of fs ≡ Ok b → text_of fs ≡ Ok (record { start = next; len = length b })
unfolding word_of text_of
text_at [] next n e = absurd (let z : ◌≡◌ {A = ℕ} 0 1 = cc in omega arith)
text_at (f ∷ fs) next {b} n e = let w : b ≡ f.bytes = cc in rw (w, n)

pub text_is : (s : List ℕ) (next : ℕ) {b : List ℕ} → word_of (fields_at s next) ≡ Ok b → text_of (fields_at s next) ≡ Ok (record { start = next; len = length b })
text_is s next e = text_at (fields_at s next) next (starts s next) e

-- a line's verb, and the settings of an opening
pub no_verb : (clock : RtmpTimestamp) (fs : List Field) {w : Why} → word_of fs ≡ Err w → Err w ≡ call_line clock fs
unfolding word_of call_line
no_verb clock [] e = cc
no_verb clock (f ∷ fs) e = cc

first_verb : (clock : RtmpTimestamp) (next : ℕ) {b : List ℕ} (fs : List Field) → word_of fs ≡ Ok b → Starts next fs
    → on (ok_or (verb_of b) Verb) (λ v. verb_line clock v (next + length b) (rest fs)) ≡ call_line clock fs
unfolding word_of call_line rest
first_verb clock next [] e n = absurd (let z : ◌≡◌ {A = ℕ} 0 1 = cc in omega arith)
first_verb clock next {b} (f ∷ fs) e n = let w : b ≡ f.bytes = cc in rw (w, n)

pub verb_is : (clock : RtmpTimestamp) (s : List ℕ) (next : ℕ) {b : List ℕ} → word_of (fields_at s next) ≡ Ok b
    → on (ok_or (verb_of b) Verb) (λ v. verb_line clock v (next + length b) (rest (fields_at s next))) ≡ call_line clock (fields_at s next)
verb_is clock s next e = first_verb clock next (fields_at s next) e (starts s next)

pub no_settings : (fs : List Field) {w : Why} → text_of fs ≡ Err w → Ok OpenDefault ≡ open_line fs
unfolding text_of open_line
no_settings [] e = refl
no_settings (f ∷ fs) e = cc

pub settings_are : (fs : List Field) {p : Span} → text_of fs ≡ Ok p → open_line fs ≡ on (settings_of p (rest fs)) (λ s. Ok (Open s))
unfolding text_of open_line rest
settings_are [] e = absurd (let z : ◌≡◌ {A = ℕ} 0 1 = cc in omega arith)
settings_are (f ∷ fs) {p} e = let w : p ≡ span_of f = cc in rw w

-- a line with a byte in it begins with its clock
pub line_is : (s : List ℕ) → (length s ≡ 0 → ⊥) → bare_line s ≡ then number_of (fields_at s 0) (λ clock fs. call_line (timestamp clock) fs)
unfolding bare_line
line_is [] h = absurd (h refl)
line_is (x ∷ s) h = refl

pub no_line : (s : List ℕ) → length s ≡ 0 → Ok Empty ≡ bare_line s
unfolding bare_line
no_line [] h = refl
no_line (x ∷ s) h = absurd (omega arith)
