-- Laws of decimal numbers: the fewest digits of a number are what is shown of it.
-- Assumes nothing.
use mathlib.Core.Path.{◌≡◌, ap}
use Prim.Native.Nat.{ℕ, zero, suc, ◌-◌, ◌*◌, ◌/◌, ◌^◌, ◌<◌, ◌≤◌}
use native.Mathlib.Omega.{arith}
use borrow.Author.Tests.{ltb-true, ltb-false}
use native.Mathlib.Nat.{pow-le-pow_right, pow-suc}
use Rattle.io.specs.Digits.{IsDigitCount, last_digits}
use lib.Dec.{ltb, lit≤}
use Rattle.requests.proofs.BoolLaws.{by_cases}
use Rattle.script_results.specs.Decimal.{width, shown}

-- a u64 has at most twenty digits
pub twenty : (n k : ℕ) → n < 18446744073709551616 → IsDigitCount 10 1 n k → k ≤ 20
twenty n k h f =
    by_cases (ltb 20 k)
    (λ t. let p : 10 ^ 20 ≤ 10 ^ (k - 1) = pow-le-pow_right {n = 10} (omega arith) {i = 20} {j = k - 1} (omega (arith, ltb-true 20 k t)) in
    let q : 10 ^ (k - 1) ≤ n = f.2 (omega (arith, ltb-true 20 k t)) in
    let z : 18446744073709551616 ≤ 10 ^ 20 = lit≤ tt in
    absurd (omega arith))
    (λ t. omega (arith, ltb-false 20 k t))

below-ten : (n k : ℕ) → n < 10 → IsDigitCount 10 1 n k → k ≡ 1
below-ten n k h f =
    by_cases (ltb 1 k)
    (λ t. let p : 10 ^ 1 ≤ 10 ^ (k - 1) = pow-le-pow_right {n = 10} (omega arith) {i = 1} {j = k - 1} (omega (arith, ltb-true 1 k t)) in
    let q : 10 ^ (k - 1) ≤ n = f.2 (omega (arith, ltb-true 1 k t)) in
    absurd (omega arith))
    (λ t. omega (arith, ltb-false 1 k t, f.0))

shorter : (n m : ℕ) → 10 ≤ n → IsDigitCount 10 1 n (suc m) → IsDigitCount 10 1 (n / 10) m
shorter n zero h f = absurd (omega (arith, f.1))
shorter n (suc m) h f =
    let e : 10 ^ suc (suc m) ≡ 10 ^ suc m * 10 = pow-suc 10 (suc m) in
    let p : n < 10 ^ suc m * 10 = rw e at f.1 in
    let a : suc (suc m) - 1 ≡ suc m = omega arith in
    let q : 10 ^ suc m ≤ n = rw a at (f.2 (omega arith)) in
    let b : suc m - 1 ≡ m = omega arith in
    let r : 10 ^ m * 10 ≤ n = rw (pow-suc 10 m) at q in
    (omega arith, omega arith, λ t. rw b (omega arith))

-- the fewest digits are as many as `width` says
pub width_is : (f n k : ℕ) → k ≤ suc f → IsDigitCount 10 1 n k → k ≡ width f n
unfolding width
width_is zero n k h p = omega (arith, p.0)
width_is (suc f) n zero h p = absurd (omega (arith, p.0))
width_is (suc f) n (suc m) h p =
    by_cases (ltb n 10)
    (λ t. rw t (below-ten n (suc m) (ltb-true n 10 t) p))
    (λ t. rw t (ap suc (width_is f (n / 10) m (omega arith) (shorter n m (ltb-false n 10 t) p))))

-- the fewest digits of a number are what is shown
pub shown-is : (n k : ℕ) → n < 18446744073709551616 → IsDigitCount 10 1 n k → last_digits 10 k n ≡ shown n
unfolding shown
shown-is n k h f = ap (λ (j : ℕ). last_digits 10 j n) (width_is 20 n k (omega (arith, twenty n k h f)) f)
