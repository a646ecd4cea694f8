-- `numbers::narrow_bits` meets its contract: `proofs/NarrowLaws.antt` has the law of each range of the exponent's field.
-- Assumes nothing.
use mathlib.Core.Path.{◌≡◌, sym, ap, ◌∙◌}
use Prim.Native.Nat.{ℕ, ◌+◌, ◌-◌, ◌*◌, ◌%◌, ◌^◌, ◌≤◌, ◌<◌}
use native.Mathlib.Nat.{mod-eq_of_lt, one-mul}
use native.Mathlib.Omega.{arith}
use lib.Dec.{lit≤}
use lib.Ieee.{binary64}
use lib.Ieee.Nearest.{closest}
use lib.Pow.{pow_pos, pow-lt}
use Rattle.numbers.proofs.Fields.{exponent}
use Rattle.numbers.proofs.RoundLaws.{kept-le}
use Rattle.numbers.proofs.NarrowLaws.{at_zero, subnormal, normal, too_large, at-infinity, at-nan}
use Rattle.numbers.proofs.narrow_bits.Goals as goal
use Rattle.numbers.proofs.narrow_bits.Goals.{After-nearest, After-nearest-then-field-lt1151}

shifted : (d : ℕ) → d < 62 → 1 * 2 ^ d % 2 ^ 64 ≡ 2 ^ d
shifted d h = let l : d < 64 = omega arith in rw one-mul (mod-eq_of_lt (pow-lt l))

pub nearest-requires : goal.nearest-requires
nearest-requires c =
    let x = exponent binary64 c.args.bits in
    rw (shifted (926 - x) (omega arith)) (omega arith, pow_pos _, pow-lt {j = 62} (omega arith))

-- the rounded digits below the smallest normal single, and those of a normal one
kept : (c : After-nearest)
    → let b = c.args.bits in c.nearest.result ≡ closest (2 ^ 52 + b % 2 ^ 52) (2 ^ (926 - exponent binary64 b))
kept c =
    let b = c.args.bits in
    c.nearest.ensures ∙ ap (closest (2 ^ 52 + b % 2 ^ 52)) (shifted (926 - exponent binary64 b) (omega arith))

small : (c : After-nearest) → c.nearest.result ≤ 2 ^ 23
small c =
    let b = c.args.bits in
    rw (kept c) (kept-le (2 ^ 52 + b % 2 ^ 52) (926 - exponent binary64 b) 23 (omega arith) (omega arith))

small_2 : (c : After-nearest-then-field-lt1151) → c.nearest-then-field-lt1151.result ≤ 2 ^ 24
small_2 c = rw c.nearest-then-field-lt1151.ensures (kept-le (2 ^ 52 + c.args.bits % 2 ^ 52) 29 24 (omega arith) (lit≤ tt))

pub returns-then-field-lt873 : goal.returns-then-field-lt873
returns-then-field-lt873 c = sym (at_zero _ (omega arith) (omega arith))

pub returns-then-field-lt897 : goal.returns-then-field-lt897
returns-then-field-lt897 c = rw (kept c) (sym (subnormal _ (omega arith) (omega arith) (omega arith)))

pub returns-then-field-lt1151 : goal.returns-then-field-lt1151
returns-then-field-lt1151 c = rw c.nearest-then-field-lt1151.ensures (sym (normal _ (omega arith) (omega arith) (omega arith)))

pub returns-then-field-lt2047 : goal.returns-then-field-lt2047
returns-then-field-lt2047 c = sym (too_large _ (omega arith) (omega arith) (omega arith))

pub returns-then-digits-eq0 : goal.returns-then-digits-eq0
returns-then-digits-eq0 c = sym (at-infinity _ (omega arith) (omega arith) (omega arith))

pub returns-else-digits-eq0 : goal.returns-else-digits-eq0
returns-else-digits-eq0 c = sym (at-nan _ (omega arith) (omega arith) c.if-digits-eq0.false)

pub overflow_add-result : goal.overflow_add-result
overflow_add-result c = omega (arith, small c)

pub overflow_cast-result-then-field-lt897 : goal.overflow_cast-result-then-field-lt897
overflow_cast-result-then-field-lt897 c = omega (arith, small c)

pub overflow_add-result-then-field-lt1151 : goal.overflow_add-result-then-field-lt1151
overflow_add-result-then-field-lt1151 c = omega (arith, small_2 c)

pub overflow_add-result-then-field-lt1151-2 : goal.overflow_add-result-then-field-lt1151-2
overflow_add-result-then-field-lt1151-2 c = omega (arith, small_2 c)

pub overflow_cast-result-then-field-lt1151 : goal.overflow_cast-result-then-field-lt1151
overflow_cast-result-then-field-lt1151 c = omega (arith, small_2 c)
