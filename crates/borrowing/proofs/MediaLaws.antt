-- A picture or sound under its own type.
-- Assumes nothing.
use Prim.Native.Nat.{ℕ}
use mathlib.Core.Path.{◌≡◌, sym}
use mathlib.Core.Bool.{Bool, true, false}
use lib.Dec.{T as Holds, eqb}
use borrow.Author.Tests.{eqb-true}
use Rattle.requests.proofs.BoolLaws.{by_cases}
use Rattle.session.specs.Message.{media_type}
use Rattle.borrowing.specs.Borrowed.{is_media}

-- the type by which `media_outcome` answers is the one passed
pub own_type : (k : ℕ) (t : Bool) → t ≡ is_media k → Holds t → media_type k ≡ k
own_type k false e on = absurd on
own_type k true e on =
    by_cases (eqb k 8)
    (λ y. rw y (sym (eqb-true k 8 y)))
    (λ n. let z : eqb k 9 ≡ true = rw n at (sym e) in rw n (sym (eqb-true k 9 z)))
