-- What the definitions mean: a number that was shown reads as itself; and the results of document 01's case. That digits written part by part are
-- those of the whole stands in HexLaws.antt.
-- Assumes nothing.
use mathlib.Core.Path.{◌≡◌, refl}
use mathlib.Core.Bool.{false}
use mathlib.Core.List.{List, [], ◌∷◌, ◌++◌, append_assoc, append-nil}
use Prim.Native.Nat.{ℕ, zero, suc, ◌+◌, ◌-◌, ◌*◌, ◌/◌, ◌%◌, ◌^◌, ◌<◌, ◌≤◌}
use native.Mathlib.Nat.{pow-suc}
use native.Mathlib.Omega.{arith}
use borrow.Author.Tests.{lt-ltb, le-ltb, ltb-true}
use lib.Dec.{ltb, lit≤}
use lib.ListN.{length, length-append}
use Rattle.std.specs.Prelude.{Ok, Some}
use Rattle.io.specs.Digits.{last_digits, hex_digit_ascii}
use Rattle.octets.specs.Compare.{ascii}
use Rattle.requests.proofs.BoolLaws.{by_cases}
use Rattle.session.specs.declared.state.ClientState.TheVariants.{Disconnected}
use Rattle.session.specs.declared.result.ClientSessionResult.TheVariants.{OutboundResponse}
use Rattle.session.specs.declared.result.Outcome.TheVariants.{Nothing, One}
use Rattle.script.specs.Decimal.{decimal_from, decimal_of}
use Rattle.script.specs.Lines.{timestamp, stream}
use Rattle.script_results.specs.Hex.{hex_text}
use Rattle.script_results.specs.Decimal.{width, shown}
use Rattle.script_results.specs.Results.{head_text, none_line, numbers_text, flags_text, packet_head, result_line, result_lines, outcome_lines}

-- digits that were written, read
back : (k n : ℕ) (rest : List ℕ) → n < 10 ^ k → n ≤ 4294967295 → decimal_from 0 (last_digits 10 k n ++ rest) ≡ decimal_from n rest
unfolding decimal_from
back zero n rest h m = let e : n ≡ 0 = omega arith in rw e
back (suc k) n rest h m =
    let p : n < 10 ^ k * 10 = rw (pow-suc 10 k) at h in
    let g : hex_digit_ascii (n % 10) ≡ 48 + n % 10 = rw (lt-ltb (n % 10) 10 (omega arith)) in
    let v : n / 10 * 10 + (48 + n % 10 - 48) ≡ n = omega arith in
    rw (append_assoc, back k (n / 10) (hex_digit_ascii (n % 10) ∷ rest) (omega arith) (omega arith), g, le-ltb (48 + n % 10) 48 (omega arith), le-ltb 57 (48 + n % 10) (omega arith), v, le-ltb 4294967295 n m)

width-holds : (f n : ℕ) → n < 10 ^ suc f → n < 10 ^ width f n
unfolding width
width-holds zero n h = h
width-holds (suc f) n h =
    by_cases (ltb n 10)
    (λ t. rw t (omega (arith, ltb-true n 10 t)))
    (λ t. let p : n < 10 ^ suc f * 10 = rw (pow-suc 10 (suc f)) at h in
    let q : n / 10 < 10 ^ width f (n / 10) = width-holds f (n / 10) (omega arith) in
    rw t (rw (pow-suc 10 (width f (n / 10))) (omega arith)))

width_some : (f n : ℕ) → 0 < width f n
unfolding width
width_some zero n = omega arith
width_some (suc f) n = by_cases (ltb n 10) (λ t. rw t (omega arith)) (λ t. rw t (omega arith))

digits-length : (k n : ℕ) → length (last_digits 10 k n) ≡ k
digits-length zero n = refl
digits-length (suc k) n = rw (length-append, digits-length k (n / 10)) (omega arith)

some-digits : (s : List ℕ) → 0 < length s → decimal_of s ≡ decimal_from 0 s
unfolding decimal_of
some-digits [] h = absurd (omega arith)
some-digits (x ∷ s) h = refl

-- a number that was shown reads as itself
pub shown-back : (n : ℕ) → n ≤ 4294967295 → decimal_of (shown n) ≡ Some n
unfolding shown decimal_from
shown-back n m =
    let z : 4294967296 ≤ 10 ^ 21 = lit≤ tt in
    let p = width_some 20 n in
    let l = digits-length (width 20 n) n in
    let r = back (width 20 n) n [] (width-holds 20 n (omega arith)) m in
    rw (some-digits (last_digits 10 (width 20 n) n) (omega arith)) (rw append-nil at r)

-- the results of document 01's case: its second line and its third
pub second_is : outcome_lines 2 Disconnected [] (Ok Nothing) ≡ ascii "2\t0\tnone\n"
unfolding outcome_lines none_line head_text shown width
second_is = refl

pub third-is : outcome_lines 3 Disconnected (0 ∷ 0 ∷ 0 ∷ 4 ∷ [])
    (Ok (One (OutboundResponse (record { type_id = 3; time = timestamp 7; stream = stream 0; droppable = false; uncompressed = false; start = 0; len = 4 }))))
    ≡ ascii "3\t0\tout\t3\t7\t0\t0\t0\t00000004\n"
unfolding outcome_lines result_lines result_line packet_head numbers_text flags_text head_text shown width hex_text
third-is = refl
