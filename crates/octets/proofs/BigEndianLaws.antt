-- Numbers and their bytes: `be` and `digits` undo each other, both split at any byte, and what `uint` reads. Each law is over the width.
-- Assumes nothing.
use Prim.Native.Nat.{ℕ, zero, suc, ◌+◌, ◌-◌, ◌*◌, ◌/◌, ◌%◌, ◌^◌, ◌<◌, ◌≤◌}
use native.Mathlib.Nat.{zero-add, suc-add, add-zero, add-suc, div-one, mod-eq_of_lt, pow-suc, pow-succ', div-div-eq-div-mul, one-le-pow}
use native.Mathlib.Numerals.{one-add}
use native.Mathlib.Omega.{arith}
use mathlib.Core.Path.{◌≡◌, refl, sym, ap, ◌∙◌}
use mathlib.Core.List.{List, [], ◌∷◌, ◌++◌, append_assoc, append-nil}
use lib.Arith.{digits_lt, digits_div, digits_mod, mod-mul}
use lib.ListN.{get_or, length, take, drop, length-append}
use lib.Dec.{leb}
use lib.Seq.{take_all, take-suc, length-take-le}
use Rattle.std.specs.Int.{w64, byte_at, byte_worth, bytes_high_first, sum_through, to_be_bytes}
use Rattle.std.specs.Prelude.{Option, Some, None, MatchOption}
use Rattle.std.specs.Borrow.{Bor}
use Rattle.std.specs.Option.{option_copied}
use Rattle.std.specs.Array.{IsFirstChunk}
use Rattle.octets.specs.Parse.{bad, got, field}
use Rattle.octets.specs.BigEndian.{Bytes, more, be, uint, digits, read_as}
use borrow.Author.Tests.{le-leb, lt-leb, leb-true}
use mathlib.Core.Bool.{Bool, true, false, cond}
use Rattle.octets.proofs.ParseLaws.{field-append, field_at, field-short}

pub more-append : (x : ℕ) (a b : List ℕ) → more x (a ++ b) ≡ more (more x a) b
more-append x [] b = refl
more-append x (y ∷ a) b = more-append (x * 256 + y) a b

-- the number that stands before moves up by the digits that follow
more-be : (x : ℕ) (s : List ℕ) → more x s ≡ x * 256 ^ length s + be s
more-be x [] = omega arith
more-be x (y ∷ s) = more-be (x * 256 + y) s ∙ rw (more-be (0 * 256 + y) s, pow-suc) (omega arith)

pub be-append : (a b : List ℕ) → be (a ++ b) ≡ be a * 256 ^ length b + be b
be-append a b = more-append 0 a b ∙ more-be (be a) b

pub length_digits : (n x : ℕ) → length (digits n x) ≡ n
unfolding digits
length_digits zero x = refl
length_digits (suc n) x = rw (length-append, length_digits n (x / 256)) (omega arith)

pub be-digits : (n x : ℕ) → x < 256 ^ n → be (digits n x) ≡ x
unfolding digits
be-digits zero x h = omega arith
be-digits (suc n) x h =
    let l : x / 256 < 256 ^ n = omega (arith, pow-suc 256 n) in
    rw (more-append, be-digits n (x / 256) l) (omega arith)

-- the digits of the two parts of a number
pub digits-split : (m n x : ℕ) → digits (m + n) x ≡ digits m (x / 256 ^ n) ++ digits n (x % 256 ^ n)
unfolding digits
digits-split m zero x = rw (add-zero, div-one, append-nil)
digits-split m (suc n) x =
    let e : x % 256 ^ suc n ≡ x / 256 % 256 ^ n * 256 + x % 256 = rw pow-suc (mod-mul x (one-le-pow n 256 (omega arith)) (omega arith)) in
    let d : x % 256 ^ suc n / 256 ≡ x / 256 % 256 ^ n = omega arith in
    let r : x % 256 ^ suc n % 256 ≡ x % 256 = omega arith in
    let q : x / 256 ^ suc n ≡ x / 256 / 256 ^ n = rw pow-succ' (sym (div-div-eq-div-mul x 256 (256 ^ n))) in
    rw (add-suc, digits-split m n (x / 256), append_assoc, q, d, r)

-- bytes above the n that are asked for make no difference
digits-low : (n x : ℕ) → digits n (x % 256 ^ n) ≡ digits n x
unfolding digits
digits-low n x = sym (ap (λ (k : ℕ). digits k x) (sym (zero-add n)) ∙ digits-split 0 n x)

-- the library's bytes of a number are its digits
byte_is : (n x : ℕ) → byte_at n x ≡ x / 256 ^ n % 256
byte_is zero x = rw div-one
byte_is (suc n) x = refl

pub high_first : (n x : ℕ) → bytes_high_first n x ≡ digits n x
unfolding digits
high_first zero x = refl
high_first (suc n) x =
    rw (byte_is n x, high_first n x, ← digits-low n x) (sym (ap (λ (k : ℕ). digits k x) (sym (one-add n)) ∙ digits-split 1 n x))

-- and the last n of more bytes are those of n
last_bytes : (m n x : ℕ) → drop m (bytes_high_first (m + n) x) ≡ digits n x
last_bytes zero n x = rw zero-add (high_first n x)
last_bytes (suc m) n x = rw suc-add (last_bytes m n x)

-- of eight bytes, the part from the (8 - n)th on
pub low_bytes : (n x : ℕ) → n ≤ 8 → take (8 - (8 - n)) (drop (8 - n) (to_be_bytes w64 x)) ≡ digits n x
low_bytes n x h =
    let e : 8 - n + n ≡ 8 = omega arith in
    let l : drop (8 - n) (bytes_high_first 8 x) ≡ digits n x = rw e at (last_bytes (8 - n) n x) in
    rw l (take_all (8 - (8 - n)) (digits n x) (omega (arith, length_digits n x)))

pub be-lt : (s : List ℕ) → Bytes s → be s < 256 ^ length s
be-lt [] h = omega arith
be-lt (x ∷ s) h = rw (more-be (0 * 256 + x) s, pow-succ') (digits_lt (omega (arith, h 0)) (be-lt s (λ i. h (suc i))))

pub digits-be : (s : List ℕ) → Bytes s → digits (length s) (be s) ≡ s
unfolding digits
digits-be [] h = refl
digits-be (x ∷ s) h =
    let l : be s < 256 ^ length s = be-lt s (λ i. h (suc i)) in
    let b : be (x ∷ s) ≡ x * 256 ^ length s + be s = more-be (0 * 256 + x) s ∙ omega arith in
    ap (λ (n : ℕ). digits n (be (x ∷ s))) (sym (one-add (length s))) ∙ digits-split 1 (length s) (be (x ∷ s))
    ∙ rw (b, digits_div x l, digits_mod x l, mod-eq_of_lt (h 0), digits-be s (λ i. h (suc i)))

pub bytes-append : (a b : List ℕ) → Bytes a → Bytes b → Bytes (a ++ b)
bytes-append [] b p q i = q i
bytes-append (x ∷ a) b p q zero = p 0
bytes-append (x ∷ a) b p q (suc i) = bytes-append a b (λ j. p (suc j)) q i

pub bytes_one : (x : ℕ) → x < 256 → Bytes (x ∷ [])
bytes_one x h zero = h
bytes_one x h (suc i) = omega arith

pub digits-bytes : (n x : ℕ) → Bytes (digits n x)
unfolding digits
digits-bytes zero x = λ i. omega arith
digits-bytes (suc n) x = bytes-append (digits n (x / 256)) (x % 256 ∷ []) (digits-bytes n (x / 256)) (bytes_one (x % 256) (omega arith))

pub uint-digits : (n x : ℕ) (r : List ℕ) → x < 256 ^ n → uint n (digits n x ++ r) ≡ got x r
unfolding uint
uint-digits n x r h = rw (field-append n (digits n x) r (length_digits n x), be-digits n x h)

module _ (n : ℕ) (s : List ℕ) (at : ℕ) where
  pub uint-at : n ≤ length s - at → uint n (drop at s) ≡ got (be (take n (drop at s))) (drop (at + n) s)
  unfolding uint
  uint-at h = rw (field_at n s at h)

  pub uint-short : length s - at < n → uint n (drop at s) ≡ bad
  unfolding uint
  uint-short h = rw (field-short n s at h)

-- what `uint` reads of n bytes that were found at the front, and that it reads none where they aren't there
module _ (n : ℕ) (s : List ℕ) {B : Type 0} (short : B) (is : ℕ → B) where
  pub found : {b r : List ℕ} {x : ℕ} → field n s ≡ got b r → x ≡ be b → is x ≡ read_as short is (uint n s)
  unfolding uint
  found e q = rw (e, q)

  pub absent : field n s ≡ bad → short ≡ read_as short is (uint n s)
  unfolding uint
  absent e = rw e

-- they are n
pub found_length : (n : ℕ) (s : List ℕ) {b r : List ℕ} → field n s ≡ got b r → length b ≡ n
unfolding field
found_length n s {b} {r} e = go (leb n (length s)) refl e
  where
    go : (t : Bool) → leb n (length s) ≡ t → cond t (got (take n s) (drop n s)) bad ≡ got b r → length b ≡ n
    go true h f = let g : take n s ≡ b = cc in rw (← g) (length-take-le n s (leb-true n (length s) h))
    go false h f = cc

-- the library's array of the first n bytes of a slice
pub first_field : (n : ℕ) (s : List ℕ) (r : Option (Bor (List ℕ))) → MatchOption r (length s < n) (λ y. IsFirstChunk s y.now n)
    → MatchOption (option_copied r) (field n s ≡ bad) (λ b. field n s ≡ got b (drop n s))
unfolding field
first_field n s None h = rw (lt-leb n (length s) h)
first_field n s (Some y) h = rw (le-leb n (length s) h.enough, h.same)

-- the library's number of k + 1 bytes: what the first j + 1 of them are worth
worth_is : (i x : ℕ) → byte_worth i x ≡ x * 256 ^ i
worth_is zero x = omega arith
worth_is (suc i) x = refl

worth : (k : ℕ) (b : List ℕ) → length b ≡ suc k → (j : ℕ) → j ≤ k
    → sum_through (λ i. byte_worth (k - i) (get_or b i 0)) j ≡ be (take (suc j) b) * 256 ^ (k - j)
worth k b e zero h =
    let t : take 1 b ≡ get_or b 0 0 ∷ [] = take-suc b 0 0 (omega arith) in
    rw (t, worth_is) (omega arith)
worth k b e (suc j) h =
    let t : take (suc (suc j)) b ≡ take (suc j) b ++ (get_or b (suc j) 0 ∷ []) = take-suc b (suc j) 0 (omega arith) in
    let m : k - j ≡ suc (k - suc j) = omega arith in
    rw (t, be-append, worth_is, worth k b e j (omega arith), m, pow-suc) (omega arith)

pub be_is : (k : ℕ) (b : List ℕ) → length b ≡ suc k → sum_through (λ i. byte_worth (k - i) (get_or b i 0)) k ≡ be b
be_is k b e =
    let t : take (suc k) b ≡ b = take_all (suc k) b (omega arith) in
    let z : k - k ≡ 0 = omega arith in
    worth k b e k (omega arith) ∙ rw (t, z) (omega arith)

-- so the number that it makes of the bytes found at the front is the one that `uint` reads
pub be-read : (k : ℕ) (s : List ℕ) {B : Type 0} (short : B) (is : ℕ → B) {b r : List ℕ} {x : ℕ} → field (suc k) s ≡ got b r
    → x ≡ sum_through (λ i. byte_worth (k - i) (get_or b i 0)) k → is x ≡ read_as short is (uint (suc k) s)
be-read k s short is e q = found (suc k) s short is e (q ∙ be_is k _ (found_length (suc k) s e))
