-- What waits after a part of it went out: the rest, moved to the front.
use Rattle.std.proofs.Common.{◌≡◌, ℕ, ◌+◌, ◌-◌, ◌≤◌, List, ◌++◌, length, take, drop, sym, ap, ◌∙◌, arith}
use Rattle.std.specs.List.{copy_within}
use Rattle.std.proofs.lemmas.List.{take_at, drop-take, length-take-le, length-drop}
use Rattle.std.proofs.Common.{take-append-drop}

-- the first n of what waits, and then what stands in front
pub moved : (xs : List ℕ) (used n : ℕ) → used ≤ length xs → n ≤ used → take used xs ≡ take n (take used xs) ++ take (used - n) (copy_within xs n used 0)
moved xs used n within most =
    let rest = take (used - n) (drop n xs) in
    let len : length rest ≡ used - n = length-take-le (used - n) (drop n xs) (omega (arith, length-drop n xs)) in
    let front : take (used - n) (copy_within xs n used 0) ≡ rest = take_at rest _ _ len in
    let parts : used ≡ n + (used - n) = omega arith in
    let same : drop n (take used xs) ≡ rest = ap (λ j. drop n (take j xs)) parts ∙ drop-take n (used - n) xs in
    sym (take-append-drop n (take used xs)) ∙ ap (λ l. take n (take used xs) ++ l) (same ∙ sym front)
