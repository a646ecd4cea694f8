-- Laws of hexadecimal text: a pair further, and how many bytes were decoded.
-- Assumes nothing.
use mathlib.Core.Path.{◌≡◌, refl, ◌∙◌}
use mathlib.Core.Bool.{true, false}
use mathlib.Core.List.{List, [], ◌∷◌}
use Prim.Native.Nat.{ℕ, suc, ◌+◌, ◌-◌, ◌*◌, ◌/◌, ◌%◌, ◌<◌, ◌≤◌}
use native.Mathlib.Numerals.{add-one}
use native.Mathlib.Omega.{arith}
use borrow.Author.Tests.{eqb-true, lt-ltb, le-ltb}
use lib.Dec.{eqb, ltb}
use lib.ListN.{length, get_or, drop, length-drop}
use lib.Seq.{drop-cons}
use Rattle.std.proofs.Common.{zero-add}
use Rattle.std.specs.List.{list_all}
use Rattle.std.proofs.lemmas.List.Edits.{sets, sets-eq}
use Rattle.octets.specs.Output.{left}
use Rattle.requests.proofs.BoolLaws.{and_left}
use Rattle.script.specs.Hex.{is_digit, pairs, pair_value, is_hex}

-- a pair further
pub pair_step : (s : List ℕ) (i : ℕ) → 2 * i + 1 < length s → pairs (drop (2 * i) s) ≡ pair_value (get_or s (2 * i) 0) (get_or s (2 * i + 1) 0) ∷ pairs (drop (2 * (i + 1)) s)
unfolding pairs
pair_step s i h =
    let e : 2 * (i + 1) ≡ suc (suc (2 * i)) = omega arith in
    rw (e, add-one, drop-cons s (2 * i) 0 (omega arith), drop-cons s (suc (2 * i)) 0 (omega arith))

at_most_one : (l : List ℕ) → length l ≤ 1 → pairs l ≡ []
unfolding pairs
at_most_one [] h = refl
at_most_one (x ∷ []) h = refl
at_most_one (x ∷ y ∷ r) h = absurd (omega arith)

pub pair_end : (s : List ℕ) (j : ℕ) → length s - j ≤ 1 → pairs (drop j s) ≡ []
pair_end s j h = at_most_one (drop j s) (simp length-drop (omega arith))

-- there are half as many bytes as digits
pub length_pairs : (s : List ℕ) → length (pairs s) ≡ length s / 2
unfolding pairs
length_pairs [] = refl
length_pairs (x ∷ []) = refl
length_pairs (x ∷ y ∷ r) = let e = length_pairs r in omega arith

-- good text has an even length
pub even-hex : (s : List ℕ) → is_hex s ≡ true → length s % 2 ≡ 0
unfolding is_hex
even-hex s h = eqb-true (length s % 2) 0 (and_left (eqb (length s % 2) 0) (list_all is_digit s) h)

-- bytes that have room, from the start; or not
pub has_room : (s old : List ℕ) → length s / 2 ≤ length old → ltb (length old) (length (pairs s)) ≡ false
has_room s old h = le-ltb (length old) (length (pairs s)) (omega (arith, length_pairs s))

pub no_room : (s old : List ℕ) → length old < length s / 2 → ltb (length old) (length (pairs s)) ≡ true
no_room s old h = lt-ltb (length old) (length (pairs s)) (omega (arith, length_pairs s))

pub written : (s old : List ℕ) → length s / 2 ≤ length old → sets old 0 (pairs s) ≡ left old (pairs s)
unfolding left
written s old h = rw (has_room s old h) (sets-eq (pairs s) old 0 (omega (arith, length_pairs s)) ∙ rw (zero-add (length (pairs s))))

pub kept : (s old : List ℕ) → length old < length s / 2 → old ≡ left old (pairs s)
unfolding left
kept s old h = rw (no_room s old h)

-- what the answer of the decoder takes
pub ruleset decoding = (even-hex, has_room, no_room, written, kept, length_pairs)
