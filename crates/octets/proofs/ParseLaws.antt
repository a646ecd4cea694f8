-- What `field` finds at the front of a list that begins with it, and at a place of a list. The two cases at a place leave none out.
-- Assumes nothing.
use Prim.Native.Nat.{ℕ, ◌+◌, ◌-◌, ◌<◌, ◌≤◌}
use native.Mathlib.Omega.{arith}
use mathlib.Core.Path.{◌≡◌}
use mathlib.Core.List.{List, ◌++◌}
use lib.ListN.{length, take, drop, length-append, length-drop}
use lib.Seq.{take_at, drop_at, drop-drop}
use borrow.Author.Tests.{le-leb, lt-leb}
use Rattle.octets.specs.Parse.{bad, got, field}

pub field-append : (n : ℕ) (a r : List ℕ) → length a ≡ n → field n (a ++ r) ≡ got a r
unfolding field
field-append n a r e = rw (le-leb n (length (a ++ r)) (omega (arith, length-append a r)), take_at a r n e, drop_at a r n e)

module _ (n : ℕ) (s : List ℕ) (at : ℕ) where
  pub field_at : n ≤ length s - at → field n (drop at s) ≡ got (take n (drop at s)) (drop (at + n) s)
  unfolding field
  field_at h = rw (le-leb n (length (drop at s)) (omega (arith, length-drop at s)), drop-drop n at s)

  pub field-short : length s - at < n → field n (drop at s) ≡ bad
  unfolding field
  field-short h = rw (lt-leb n (length (drop at s)) (omega (arith, length-drop at s)))
