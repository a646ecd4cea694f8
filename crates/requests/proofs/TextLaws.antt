-- A text that fits is stored whole and sound, and a stored text that is sound is one that fits.
-- Assumes nothing.
use Prim.Native.Nat.{ℕ, ◌+◌, ◌-◌, ◌≤◌, min}
use mathlib.Core.Path.{◌≡◌, sym, ap, ◌∙◌}
use mathlib.Core.Bool.{true}
use mathlib.Core.List.{List, ◌++◌, append-nil}
use native.Mathlib.Omega.{arith}
use lib.Dec.{leb}
use lib.ListN.{length, take, drop, replicate, length-take}
use lib.Seq.{take-take, take-append_seam, take-append-le, take-append-add, take-length}
use Rattle.std.proofs.lemmas.Bool.{and_parts}
use Rattle.std.proofs.lemmas.List.{take-replicate, drop-replicate}
use borrow.Author.Tests.{leb-true, leb-false, le-leb}
use Rattle.octets.specs.Utf8.{utf8}
use Rattle.requests.specs.Texts.{fits, text_of, text_sound, stored}
use Rattle.requests.specs.declared.text.Text.{Text}
use Rattle.requests.proofs.BoolLaws.{by_cases}

-- a list cut to n with zeros after it
take-padded : (n : ℕ) (t : List ℕ) → length t ≤ n → take (length t) (take n (t ++ replicate n 0)) ≡ t
take-padded n t h = take-take (length t) n (t ++ replicate n 0) h ∙ take-append_seam t (replicate n 0)

-- a text copied over n zeros, as much of it as there is room for
pub padded-with : (n : ℕ) (t : List ℕ) (k : ℕ) → k ≡ min (length t) n → take k t ++ drop k (replicate n 0) ≡ take n (t ++ replicate n 0)
padded-with n t k e =
    by_cases (leb (length t) n)
    (λ u.
    let h = leb-true (length t) n u in
    let j = n - length t in
    let f : k ≡ length t = omega arith in
    let m : n ≡ length t + j = omega arith in
    rw (f, take-length t, drop-replicate {X = ℕ} (length t) n 0)
    (sym (ap (λ i. take i (t ++ replicate n 0)) m ∙ take-append-add t (replicate n 0) j ∙ ap (λ r. t ++ r) (take-replicate j n 0 (omega arith)))))
    (λ u.
    let h = leb-false (length t) n u in
    let f : k ≡ n = omega arith in
    let z : n - n ≡ 0 = omega arith in
    rw (f, drop-replicate {X = ℕ} n n 0, z, append-nil, take-append-le n t (replicate n 0) (omega arith)))

module _ (t : List ℕ) (e : fits t ≡ true) where
  pub fits-length : length t ≤ 255
  unfolding fits
  fits-length = leb-true (length t) 255 (and_parts _ _ e).0

  pub fits-utf8 : utf8 t ≡ true
  unfolding fits
  fits-utf8 = (and_parts _ _ e).1

  pub text-stored : text_of (stored t) ≡ t
  unfolding text_of stored
  text-stored = take-padded 255 t fits-length

  pub stored-sound : text_sound (stored t) ≡ true
  unfolding text_sound stored
  stored-sound = rw (le-leb (length t) 255 fits-length, text-stored, fits-utf8)

-- what holds of a text that opening accepts
pub text-sound : (x : Text) → text_sound x ≡ true → (utf8 (text_of x) ≡ true) × (length (text_of x) ≤ 255)
unfolding text_of text_sound
text-sound x e =
    let p = and_parts _ _ e in
    let l = leb-true x.len 255 p.0 in
    (p.1, simp length-take (omega arith))
