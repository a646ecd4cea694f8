-- Laws of `specs/Utf8.antt`: what byte begins which row; that the test is the ABNF, `means` and `meant`; and texts that are UTF-8 for sure.
-- Assumes nothing.
use Prim.Native.Nat.{ℕ, ◌≤◌}
use mathlib.Core.Bool.{Bool, true, false, ◌&&◌, ◌||◌, or-false, or-true, false≢true}
use mathlib.Core.List.{List, [], ◌∷◌, ◌++◌, append_assoc, head-eq_of_cons-eq, tail-eq_of_cons-eq}
use mathlib.Core.List.{Memᴰ}
use mathlib.Core.Logic.{◌⊎◌, inl, inr, ⊎_elim}
use mathlib.Core.Path.{◌≡◌, refl, ◌∙◌}
use native.Mathlib.Omega.{arith}
use borrow.Author.Tests.{le-leb, lt-leb, leb-true, leb-false, ltb-true}
use lib.Dec.{leb, ltb}
use Rattle.octets.specs.Utf8.{Range, from_to, rows, within, in_row, Octets, none, char, any_row, octets, utf8}

-- The first byte of a character. Where the tests of all rows come out at b as at a, every byte between them begins what a begins.
abbrev tests : List (List Range) → ℕ → List Bool
tests [] x = []
tests ([] ∷ rs) x = tests rs x
tests ((from_to lo hi ∷ row) ∷ rs) x = leb lo x ∷ leb x hi ∷ tests rs x

module _ (a b x : ℕ) (l : a ≤ x) (h : x ≤ b) where
  lo_test : (lo : ℕ) (t : Bool) → leb lo a ≡ t → leb lo b ≡ t → leb lo x ≡ t
  lo_test lo true p q = le-leb lo x (omega (arith, leb-true lo a p))
  lo_test lo false p q = lt-leb lo x (omega (arith, leb-false lo b q))

  hi_test : (hi : ℕ) (t : Bool) → leb a hi ≡ t → leb b hi ≡ t → leb x hi ≡ t
  hi_test hi true p q = le-leb x hi (omega (arith, leb-true b hi q))
  hi_test hi false p q = lt-leb x hi (omega (arith, leb-false a hi p))

  same : (rs : List (List Range)) (f : List Range → Bool) → tests rs b ≡ tests rs a → any_row rs x f ≡ any_row rs a f
  unfolding any_row
  same [] f e = refl
  same ([] ∷ rs) f e = same rs f e
  same ((from_to lo hi ∷ row) ∷ rs) f e =
      let e' = tail-eq_of_cons-eq e in
      rw (
        lo_test lo (leb lo a) refl (head-eq_of_cons-eq e),
        hi_test hi (leb a hi) refl (head-eq_of_cons-eq e'),
        same rs f (tail-eq_of_cons-eq e'),
      )

  pub led : (xs : List ℕ) (v : Bool) → tests rows b ≡ tests rows a → any_row rows a (octets xs) ≡ v → octets (x ∷ xs) [] ≡ v
  unfolding octets
  led xs v e g = same rows (octets xs) e ∙ g

pub both : (a b : Bool) → (a && b) ≡ true → (a ≡ true) × (b ≡ true)
both true b e = (refl, e)
both false b e = absurd (false≢true e)

either : (a b : Bool) → (a || b) ≡ true → (a ≡ true) ⊎ (b ≡ true)
either true b e = inl refl
either false b e = inr e

-- What the test is true of is `Octets`: bytes of the ranges that are due come first, and then characters.
data Parted (row : List Range) : List ℕ → Type 0 where
  parts : (c s : List ℕ) → in_row row c ≡ true → Octets s → Parted row (c ++ s)

more : {r : Range} {row : List Range} {x : ℕ} {s : List ℕ} → within r x ≡ true → Parted row s → Parted (r ∷ row) (x ∷ s)
more {x = x} w (parts c s e o) = parts (x ∷ c) s (rw w e) o

one : {row : List Range} {s : List ℕ} → Memᴰ row rows → Parted row s → Octets s
one m (parts c s e o) = char _ c s m e o

whole : {s : List ℕ} → Parted [] s → Octets s
whole (parts [] s e o) = o
whole (parts (x ∷ c) s e o) = absurd (false≢true e)

begun : {C : Type 0} (rs : List (List Range)) (x : ℕ) (f : List Range → Bool) → any_row rs x f ≡ true
    → ((r : Range) (row : List Range) → Memᴰ (r ∷ row) rs → within r x ≡ true → f row ≡ true → C) → C
unfolding any_row
begun [] x f e k = absurd (false≢true e)
begun ([] ∷ rs) x f e k = begun rs x f e (λ r row m. k r row (Memᴰ.tail m))
begun ((r ∷ row) ∷ rs) x f e k =
    ⊎_elim (λ p. let q = both (within r x) (f row) p in k r row (Memᴰ.head refl) q.0 q.1)
    (λ p. begun rs x f p (λ r row m. k r row (Memᴰ.tail m)))
    (either (within r x && f row) (any_row rs x f) e)

parted : (s : List ℕ) (row : List Range) → octets s row ≡ true → Parted row s
unfolding octets
parted [] [] e = parts [] [] refl none
parted [] (r ∷ row) e = absurd (false≢true e)
parted (x ∷ xs) [] e =
    parts [] (x ∷ xs) refl (begun rows x (octets xs) e (λ r row m w f. one m (more w (parted xs row f))))
parted (x ∷ xs) (r ∷ row) e = let w = both (within r x) (octets xs row) e in more w.0 (parted xs row w.1)

pub means : (s : List ℕ) → utf8 s ≡ true → Octets s
unfolding utf8
means s e = whole (parted s [] e)

-- The test is true of every `Octets`.
begins : (rs : List (List Range)) (r : Range) (row : List Range) (x : ℕ) (f : List Range → Bool)
    → Memᴰ (r ∷ row) rs → within r x ≡ true → f row ≡ true → any_row rs x f ≡ true
unfolding any_row
begins [] r row x f m w g = elim m [ ]
begins (q ∷ rs) r row x f (Memᴰ.head e) w g = rw (← e, w, g)
begins ([] ∷ rs) r row x f (Memᴰ.tail m) w g = begins rs r row x f m w g
begins ((q ∷ qs) ∷ rs) r row x f (Memᴰ.tail m) w g = rw (begins rs r row x f m w g, or-true)

joined : (row : List Range) (c s : List ℕ) → in_row row c ≡ true → octets s [] ≡ true → octets (c ++ s) row ≡ true
unfolding octets
joined [] [] s e o = o
joined [] (x ∷ c) s e o = absurd (false≢true e)
joined (r ∷ row) [] s e o = absurd (false≢true e)
joined (r ∷ row) (x ∷ c) s e o = let w = both (within r x) (in_row row c) e in rw w.0 (joined row c s w.1 o)

one_more : (row : List Range) (c s : List ℕ) → Memᴰ row rows → in_row row c ≡ true → octets s [] ≡ true → octets (c ++ s) [] ≡ true
unfolding octets
one_more [] c s m e o = joined [] c s e o
one_more (r ∷ row) [] s m e o = o
one_more (r ∷ row) (x ∷ c) s m e o =
    let w = both (within r x) (in_row row c) e in
    begins rows r row x (octets (c ++ s)) m w.0 (joined row c s w.1 o)

pub meant : {s : List ℕ} → Octets s → utf8 s ≡ true
unfolding utf8 octets
meant none = refl
meant (char row c s m e o) = one_more row c s m e (meant o)

-- Texts that are UTF-8: the empty one, one after another, and one of bytes below 128.
pub utf8_nil : utf8 [] ≡ true
utf8_nil = meant none

append : {a b : List ℕ} → Octets a → Octets b → Octets (a ++ b)
append none q = q
append (char row c s m e o) q = rw append_assoc (char row c _ m e (append o q))

pub utf8_append : (a b : List ℕ) → utf8 a ≡ true → utf8 b ≡ true → utf8 (a ++ b) ≡ true
utf8_append a b p q = meant (append (means a p) (means b q))

abbrev pub all_ascii : List ℕ → Bool
all_ascii [] = true
all_ascii (x ∷ xs) = ltb x 0x80 && all_ascii xs

pub utf8-ascii : (s : List ℕ) → all_ascii s ≡ true → utf8 s ≡ true
unfolding utf8 octets any_row
utf8-ascii [] e = refl
utf8-ascii (x ∷ xs) e =
    let w = both (ltb x 0x80) (all_ascii xs) e in
    led 0x00 0x7f x (omega arith) (omega (arith, ltb-true x 0x80 w.0)) xs true refl (or-false _ ∙ utf8-ascii xs w.1)
