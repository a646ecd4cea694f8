-- The table of requests: taking a number and a place and closing a request keep it sound, and change the open requests as they should.
-- Assumes nothing.
use Prim.Native.Nat.{ℕ, ◌<◌, ◌≤◌}
use mathlib.Core.Path.{◌≡◌, refl}
use mathlib.Core.Bool.{true, false, cond}
use mathlib.Core.List.{List}
use Rattle.std.specs.Prelude.{Some, None}
use Rattle.std.proofs.lemmas.Bool.{and_parts}
use native.Mathlib.Omega.{arith}
use borrow.Author.Tests.{ltb-true, lt-ltb, leb-true, leb-false, le-leb}
use lib.Dec.{eqb}
use lib.ListN.{length}
use Rattle.requests.specs.Texts.{fits, stored}
use Rattle.requests.specs.Places.{open_count, lookup, has_number, place_sound, places_sound}
use Rattle.requests.specs.Table.{none, requests_sound, spent, eight_open, asked, closed}
use Rattle.requests.specs.declared.outstanding_transaction.OutstandingTransaction.{OutstandingTransaction}
use Rattle.requests.specs.declared.table.Requests.{Requests}
use Rattle.requests.proofs.TextLaws.{stored-sound}
use Rattle.requests.proofs.PlaceLaws.{length-put, length_without, lookup-put, lookup-without, not_yet, put-sound, without-sound}

-- what sound requests hold, as facts
pub record Sound (r : Requests) : Type 0 where
  pub low : 0 < r.next
  pub high : r.next ≤ 4294967296
  pub places : places_sound r.next r.places ≡ true

pub sound : (r : Requests) → requests_sound r ≡ true → Sound r
unfolding requests_sound
sound r e =
    let l = and_parts _ _ e in
    let a = and_parts _ _ l.0 in
    record { low = ltb-true 0 r.next a.0; high = leb-true r.next 4294967296 a.1; places = l.1 }

of-sound : (r : Requests) → Sound r → requests_sound r ≡ true
unfolding requests_sound
of-sound r s = rw (lt-ltb 0 r.next s.low, le-leb r.next 4294967296 s.high, s.places)

-- ---- no request open
pub length_none : length none.places ≡ 8
unfolding none
length_none = refl

pub none-sound : requests_sound none ≡ true
unfolding none requests_sound places_sound place_sound
none-sound = refl

-- ---- lengths
pub length-asked : (r : Requests) (k : OutstandingTransaction) (t : List ℕ) → length (asked r k t).places ≡ length r.places
unfolding asked
length-asked r k t = length-put _ r.places

pub length-closed : (r : Requests) (n : ℕ) → length (closed r n).places ≡ length r.places
unfolding closed
length-closed r n = length_without n r.places

-- ---- a request taken
module _ (r : Requests) (e : requests_sound r ≡ true) where
  -- the next number is in no place
  pub next_new : has_number r.next r.places ≡ false
  next_new = not_yet r.next r.next r.places (sound r e).places (omega arith)

  module _ (k : OutstandingTransaction) (t : List ℕ) (l : length r.places ≡ 8) (o : eight_open r ≡ false) where
    room : open_count r.places < length r.places
    room = let h = leb-false 8 (open_count r.places) o in omega arith

    pub asked-sound : spent r ≡ false → fits t ≡ true → requests_sound (asked r k t) ≡ true
    unfolding asked
    asked-sound n f =
        let s = sound r e in
        let h = leb-false 4294967296 r.next n in
        of-sound _
        (record { low = omega arith; high = omega arith; places = put-sound r.next k (stored t) s.low (stored-sound t f) r.places room s.places })

    -- the open requests are those before, with the new one
    pub asked-open : (m : ℕ) → lookup m (asked r k t).places ≡ cond (eqb r.next m) (Some (record { kind = k; text = stored t })) (lookup m r.places)
    unfolding asked
    asked-open m = lookup-put r.next k (stored t) r.places room next_new m

-- ---- a request closed
module _ (r : Requests) (n : ℕ) where
  pub closed-sound : requests_sound r ≡ true → requests_sound (closed r n) ≡ true
  unfolding closed
  closed-sound e = let s = sound r e in of-sound _ (record { low = s.low; high = s.high; places = without-sound r.next n r.places s.places })

  -- the open requests are those before, without the one under that number
  pub closed-open : (m : ℕ) → lookup m (closed r n).places ≡ cond (eqb n m) None (lookup m r.places)
  unfolding closed
  closed-open m = lookup-without m n r.places
