-- Writes one after the other are one write of the bytes joined; and a whole body that was put from byte 0, or not at all.
-- Assumes nothing.
use Prim.Native.Nat.{ℕ, suc, ◌+◌, ◌-◌, ◌≤◌, ◌<◌}
use native.Mathlib.Nat.{add-zero, add-suc, suc-add, zero-add}
use native.Mathlib.Omega.{arith}
use mathlib.Core.Path.{◌≡◌, refl, sym, ap, ◌∙◌}
use mathlib.Core.List.{List, [], ◌∷◌, ◌++◌, append_assoc}
use lib.ListN.{length, set, length-append}
use lib.Seq.{sets, sets-eq, drop-drop}
use borrow.Author.Tests.{lt-ltb, le-ltb}
use borrow.Rule.Slice.PartMut.{put_mid}
use Rattle.std.specs.Prelude.{Ok, Err}
use Rattle.std.specs.Borrow.{MutBor}
use Rattle.octets.specs.declared.output.Writer.{Writer}
use Rattle.octets.specs.Output.{Begun, Put, Written, answer, left, no_space}

pub sets-append : (l : List ℕ) (i : ℕ) (a b : List ℕ) → sets (sets l i a) (i + length a) b ≡ sets l i (a ++ b)
sets-append l i [] b = rw add-zero
sets-append l i (x ∷ a) b = rw (add-suc, ← suc-add) (sets-append (set l i x) (suc i) a b)

-- the law of adjacent writes
pub then : {u v w : Writer} {a b : List ℕ} → Put u a v → Put v b w → Put u (a ++ b) w
then {u} {v} {w} {a} {b} p q = record {
  list = q.list ∙ rw (p.list, p.next_is) (sets-append u.out.now u.at a b);
  next_is = rw length-append (omega arith);
  same = q.same ∙ p.same;
  len = q.len ∙ p.len;
}

-- the same, where the first write is of one byte
pub cons : {u v w : Writer} {x : ℕ} {b : List ℕ} → Put u (x ∷ []) v → Put v b w → Put u (x ∷ b) w
cons p q = then p q

-- nothing was put
pub no-put : {o : Writer} → Put o [] o
no-put = record { list = refl; next_is = omega arith; same = refl; len = refl }

-- the part of the output from `at` on was replaced by the bytes
pub pasted : (at : ℕ) (o s t : List ℕ) → t ≡ s → at + length s ≤ length o → put_mid at (at + length s - at) o t ≡ sets o at s
pasted at o s t e h =
    let n : at + length s - at ≡ length s = omega arith in
    rw (sets-eq s o at h, append_assoc, e, n, drop-drop)

-- the body fitted, and stands from byte 0
pub whole : {o b n : List ℕ} {k : ℕ} → n ≡ sets o 0 b → k ≡ length b → length b ≤ length o → Written o b n (Ok k)
unfolding answer left
whole {o} {b} e l h = record {
  answered = rw (le-ltb (length o) (length b) h) (ap Ok l);
  list = rw (le-ltb (length o) (length b) h) (e ∙ sets-eq b o 0 (omega arith) ∙ rw zero-add);
}

-- it was put there by a writer that is gone: the output is as it left it
pub fitted : (w : Writer) {out : MutBor (List ℕ)} {u : Writer} {b n : List ℕ} {k : ℕ}
    → Begun out 0 u → k ≡ w.at → Put u b w → (out.ghost_name ≡ w.out.ghost_name → n ≡ w.out.now) → length b ≤ length out.now
    → Written out.now b n (Ok k)
fitted w g t p e h = whole (e (sym (p.same ∙ g.same)) ∙ rw (← g.list, ← g.at_is) p.list) (omega (arith, p.next_is, g.at_is)) h

-- there was no space, and nothing was written
pub short : {o b : List ℕ} → length o < length b → Written o b o (Err no_space)
unfolding answer left
short {o} {b} h = record { answered = rw (lt-ltb (length o) (length b) h); list = rw (lt-ltb (length o) (length b) h) }
