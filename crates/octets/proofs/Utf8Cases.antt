-- Each row of the table of RFC 3629's examples holds: antt computes the test at every row.
-- Assumes nothing.
use Prim.Native.Nat.{ℕ}
use mathlib.Core.Bool.{Bool}
use mathlib.Core.List.{List, [], ◌∷◌, map, Memᴰ, head-eq_of_cons-eq, tail-eq_of_cons-eq}
use mathlib.Core.Path.{◌≡◌, refl}
use Rattle.octets.specs.Utf8.{any_row, octets, utf8}
use Rattle.octets.specs.Utf8Cases.{cases}

module _ (r : List ℕ × Bool) where
  each : (rs : List (List ℕ × Bool)) → map (λ q. utf8 q.0) rs ≡ map (λ q. q.1) rs → Memᴰ r rs → utf8 r.0 ≡ r.1
  each [] e m = elim m [ ]
  each (q ∷ rs) e (Memᴰ.head p) = rw p (head-eq_of_cons-eq e)
  each (q ∷ rs) e (Memᴰ.tail m) = each rs (tail-eq_of_cons-eq e) m

  pub cases-hold : Memᴰ r cases → utf8 r.0 ≡ r.1
  unfolding utf8 octets any_row
  cases-hold = each cases refl
