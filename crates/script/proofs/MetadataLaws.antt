-- Laws of metadata's fields: a field further; and a single from its 8 digits.
-- Assumes nothing.
use mathlib.Core.Path.{◌≡◌, refl, sym, ◌∙◌}
use mathlib.Core.Bool.{Bool, true, false, and-false}
use mathlib.Core.List.{List, [], ◌∷◌, append-nil}
use Prim.Native.Nat.{ℕ, ◌-◌}
use native.Mathlib.Omega.{arith}
use borrow.Author.Tests.{eq-eqb, ne_eqb}
use lib.Dec.{eqb}
use lib.ListN.{length, take, drop, length-drop}
use lib.Seq.{take_all}
use lib.Pointwise.{pointwise}
use Rattle.std.proofs.Common.{drop_of_length-le}
use Rattle.std.specs.Prelude.{Option, Some, None, Ok, Err}
use Rattle.std.specs.Int.{w32, from_be_bytes}
use Rattle.std.specs.Float.{binary32, binary64}
use Rattle.std.specs.Float.Ieee.{of_bits, to_bits}
use Rattle.std.specs.Option.{option_or}
use Rattle.std.specs.Result.{result_ok}
use lib.Ieee.Bits.{of_bits-fits}
use Rattle.octets.specs.BigEndian.{be}
use Rattle.octets.specs.Compare.{same}
use Rattle.octets.specs.Output.{left}
use Rattle.numbers.specs.Numbers.{narrowed}
use Rattle.numbers.proofs.Laws.{narrowed-sent}
use Rattle.requests.proofs.BoolLaws.{by_cases}
use Rattle.octets.specs.declared.span.Span.{Span}
use Rattle.script.specs.declared.reasons.Why.{Why}
use Rattle.script.specs.Hex.{is_hex, pairs, unhex_of, unhex_into}
use Rattle.script.specs.Fields.{Field, fields_at}
use Rattle.script.specs.Lines.{word_of, rest, on}
use Rattle.script.specs.Metadata.{begins, rate_of, check_field, check_fields, value_in, last_value}
use Rattle.script.proofs.HexLaws.{length_pairs, has_room}
use Rattle.script.proofs.ReadLaws.{Starts, starts}

-- a field further
pub check_more : (fs : List Field) {b : List ℕ} → word_of fs ≡ Ok b → check_fields fs ≡ on (check_field b) (λ u. check_fields (rest fs))
unfolding word_of rest check_fields
check_more [] e = absurd (let z : ◌≡◌ {A = ℕ} 0 1 = cc in omega arith)
check_more (f ∷ fs) {b} e = let w : b ≡ f.bytes = cc in rw w

pub check_end : (fs : List Field) {w : Why} → word_of fs ≡ Err w → check_fields fs ≡ Ok tt
unfolding word_of check_fields
check_end [] e = refl
check_end (f ∷ fs) e = absurd (let z : ◌≡◌ {A = ℕ} 0 1 = cc in omega arith)

last_of : (name : List ℕ) (next : ℕ) (best : Option Span) {b : List ℕ} (fs : List Field) → word_of fs ≡ Ok b → Starts next fs
    → last_value name fs best ≡ last_value name (rest fs) (option_or (value_in next b name) best)
unfolding word_of rest last_value
last_of name next best [] e n = absurd (let z : ◌≡◌ {A = ℕ} 0 1 = cc in omega arith)
last_of name next best {b} (f ∷ fs) e n = let w : b ≡ f.bytes = cc in rw (w, n)

pub last_more : (name s : List ℕ) (next : ℕ) (best : Option Span) {b : List ℕ} → word_of (fields_at s next) ≡ Ok b
    → last_value name (fields_at s next) best ≡ last_value name (rest (fields_at s next)) (option_or (value_in next b name) best)
last_more name s next best e = last_of name next best (fields_at s next) e (starts s next)

pub last_end : (name : List ℕ) (fs : List Field) (best : Option Span) {w : Why} → word_of fs ≡ Err w → last_value name fs best ≡ best
unfolding word_of last_value
last_end name [] best e = refl
last_end name (f ∷ fs) best e = absurd (let z : ◌≡◌ {A = ℕ} 0 1 = cc in omega arith)

-- the library's comparison is this one
pointwise-same : (a b : List ℕ) → pointwise eqb a b ≡ same a b
unfolding same
pointwise-same [] [] = refl
pointwise-same [] (y ∷ b) = refl
pointwise-same (x ∷ a) [] = refl
pointwise-same (x ∷ a) (y ∷ b) = by_cases (eqb x y) (λ t. rw t (pointwise-same a b)) (λ t. rw t)

pub begins_is : (name s : List ℕ) {t : Bool} → pointwise eqb (take (length name) s) name ≡ t → begins name s ≡ t
unfolding begins
begins_is name s e = sym (pointwise-same (take (length name) s) name) ∙ e

-- from n on, to the end
pub to_end : (s : List ℕ) (n : ℕ) → take (length s - n) (drop n s) ≡ drop n s
to_end s n = take_all (length s - n) (drop n s) (simp length-drop (omega arith))

-- 8 digits are the 4 bytes of a pattern
four : (d : List ℕ) → length d ≡ 8 → length (pairs d) ≡ 4
four d h = let e = length_pairs d in omega arith

unhex_four : (d old : List ℕ) → length d ≡ 8 → length old ≡ 4 → is_hex d ≡ true → result_ok (unhex_of d old) ≡ Some 4
unfolding unhex_of
unhex_four d old h o t = rw (t, has_room d old (omega arith), four d h)

into_four : (d old : List ℕ) → length d ≡ 8 → length old ≡ 4 → is_hex d ≡ true → unhex_into d old ≡ pairs d
unfolding unhex_into left
into_four d old h o t =
    let e : drop 4 old ≡ [] = drop_of_length-le old {i = 4} (omega arith) in
    rw (t, has_room d old (omega arith), four d h, e) (append-nil (pairs d))

unhex_none : (d old : List ℕ) → is_hex d ≡ false → result_ok (unhex_of d old) ≡ None
unfolding unhex_of
unhex_none d old t = rw t

be_of : (l : List ℕ) → length l ≡ 4 → from_be_bytes w32 l ≡ be l
be_of [] h = absurd (omega arith)
be_of (a ∷ []) h = absurd (omega arith)
be_of (a ∷ (b ∷ [])) h = absurd (omega arith)
be_of (a ∷ (b ∷ (c ∷ []))) h = absurd (omega arith)
be_of (a ∷ (b ∷ (c ∷ (d ∷ [])))) h = omega arith
be_of (a ∷ (b ∷ (c ∷ (d ∷ (e ∷ l))))) h = absurd (omega arith)

pub rate_length : (d : List ℕ) → (length d ≡ 8 → ⊥) → rate_of d ≡ None
unfolding rate_of
rate_length d h = rw (ne_eqb (length d) 8 h)

rate_none : (d : List ℕ) → is_hex d ≡ false → rate_of d ≡ None
unfolding rate_of
rate_none d t = rw (t, and-false (eqb (length d) 8))

rate_is : (d : List ℕ) → length d ≡ 8 → is_hex d ≡ true → rate_of d ≡ Some (narrowed (of_bits binary64 (to_bits binary64 (of_bits binary32 (be (pairs d))))))
unfolding rate_of
rate_is d h t = rw (eq-eqb (length d) 8 h, t, narrowed-sent (of_bits binary32 (be (pairs d))) (of_bits-fits binary32 (be (pairs d))))

-- what the decoder answers is what the 8 digits write
module _ (d old : List ℕ) {r : Option ℕ} (e : r ≡ result_ok (unhex_of d old)) (h : length d ≡ 8) (o : length old ≡ 4) where
  pub rate_refused : r ≡ None → rate_of d ≡ None
  rate_refused n = by_cases (is_hex d) (λ t. let f = unhex_four d old h o t in absurd (let z : ◌≡◌ {A = ℕ} 0 1 = cc in omega arith)) (λ t. rate_none d t)

  pub rate_read : {n : ℕ} → r ≡ Some n → (new : List ℕ) → new ≡ unhex_into d old
      → rate_of d ≡ Some (narrowed (of_bits binary64 (to_bits binary64 (of_bits binary32 (from_be_bytes w32 new)))))
  rate_read done new into =
      by_cases (is_hex d)
      (λ t. let p : new ≡ pairs d = into ∙ into_four d old h o t in
      rate_is d h t ∙ rw (p, be_of (pairs d) (four d h)))
      (λ t. let f = unhex_none d old t in absurd (let z : ◌≡◌ {A = ℕ} 0 1 = cc in omega arith))
