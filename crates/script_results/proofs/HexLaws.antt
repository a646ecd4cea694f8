-- Laws of hexadecimal text: in parts; a byte further; and what was written reads as the same bytes.
-- Assumes nothing.
use mathlib.Core.Path.{◌≡◌, refl, ap}
use mathlib.Core.Bool.{true}
use mathlib.Core.List.{List, [], ◌∷◌, ◌++◌}
use Prim.Native.Nat.{ℕ, suc, ◌+◌, ◌-◌, ◌*◌, ◌/◌, ◌%◌, ◌<◌, ◌≤◌}
use native.Mathlib.Numerals.{add-one}
use native.Mathlib.Omega.{arith}
use borrow.Author.Tests.{lt-ltb, le-ltb, ltb-true, ltb-false}
use lib.Dec.{ltb}
use lib.ListN.{length, get_or, take}
use lib.Seq.{take-suc}
use Rattle.io.specs.Digits.{hex_digit_ascii}
use Rattle.requests.proofs.BoolLaws.{by_cases}
use Rattle.std.specs.Prelude.{Some}
use Rattle.std.specs.List.{list_all}
use Rattle.script.specs.Hex.{value_of, is_digit, pairs, pair_value}
use Rattle.script_results.specs.Hex.{hex_text}

-- a body's digits go out in parts
pub hex-parts : (a b : List ℕ) → hex_text (a ++ b) ≡ hex_text a ++ hex_text b
unfolding hex_text
hex-parts [] b = refl
hex-parts (x ∷ a) b = ap (λ (l : List ℕ). hex_digit_ascii (x / 16) ∷ hex_digit_ascii (x % 16) ∷ l) (hex-parts a b)

-- a byte further
pub text-step : (s : List ℕ) (i : ℕ) → i < length s
    → hex_text (take (i + 1) s) ≡ hex_text (take i s) ++ (hex_digit_ascii (get_or s i 0 / 16) ∷ hex_digit_ascii (get_or s i 0 % 16) ∷ [])
unfolding hex_text
text-step s i h = rw (add-one, take-suc s i 0 h, hex-parts (take i s))

-- a digit that was written reads as its value
pub glyph-value : (d : ℕ) → d < 16 → value_of (hex_digit_ascii d) ≡ Some d
glyph-value d h =
    by_cases (ltb d 10)
    (λ t. let k : d < 10 = ltb-true d 10 t in
    rw t (rw (le-ltb (48 + d) 48 (omega arith), lt-ltb (48 + d) 58 (omega arith)) (let e : 48 + d - 48 ≡ d = omega arith in ap Some e)))
    (λ t. let k : 10 ≤ d = ltb-false d 10 t in
    rw t (rw (le-ltb (87 + d) 48 (omega arith), le-ltb (87 + d) 58 (omega arith), le-ltb (87 + d) 65 (omega arith), le-ltb (87 + d) 71 (omega arith), le-ltb (87 + d) 97 (omega arith), lt-ltb (87 + d) 103 (omega arith)) (let e : 87 + d - 87 ≡ d = omega arith in ap Some e)))

pair_back : (x : ℕ) → x < 256 → pair_value (hex_digit_ascii (x / 16)) (hex_digit_ascii (x % 16)) ≡ x
unfolding pair_value
pair_back x h =
    let p : value_of (hex_digit_ascii (x / 16)) ≡ Some (x / 16) = glyph-value (x / 16) (omega arith) in
    let q : value_of (hex_digit_ascii (x % 16)) ≡ Some (x % 16) = glyph-value (x % 16) (omega arith) in
    rw (p, q) (omega arith)

-- reading what was written gives the bytes back
pub hex-back : (s : List ℕ) → ((i : ℕ) → get_or s i 0 < 256) → pairs (hex_text s) ≡ s
unfolding pairs hex_text
hex-back [] h = refl
hex-back (x ∷ xs) h = rw (pair_back x (h 0), hex-back xs (λ i. h (suc i)))

digit_good : (d : ℕ) → d < 16 → is_digit (hex_digit_ascii d) ≡ true
unfolding is_digit
digit_good d h = rw (glyph-value d h)

-- and it is good text
pub hex-good : (s : List ℕ) → ((i : ℕ) → get_or s i 0 < 256) → list_all is_digit (hex_text s) ≡ true
unfolding hex_text
hex-good [] h = refl
hex-good (x ∷ xs) h =
    let b : x < 256 = h 0 in
    rw (digit_good (x / 16) (omega arith), digit_good (x % 16) (omega arith), hex-good xs (λ i. h (suc i)))

pub text-length : (s : List ℕ) → length (hex_text s) ≡ 2 * length s
unfolding hex_text
text-length [] = refl
text-length (x ∷ xs) = let e = text-length xs in omega arith
