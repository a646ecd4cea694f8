-- A text that was put at a place where it fits, or not at all.
-- Assumes nothing.
use Prim.Native.Nat.{ℕ, ◌+◌, ◌≤◌, ◌<◌}
use native.Mathlib.Omega.{arith}
use mathlib.Core.Path.{◌≡◌, sym, ap, ◌∙◌}
use mathlib.Core.List.{List}
use lib.ListN.{length}
use borrow.Author.Tests.{lt-ltb, le-ltb}
use Rattle.std.specs.Prelude.{Ok, Err}
use Rattle.std.specs.Borrow.{MutBor}
use Rattle.octets.specs.declared.output.Writer.{Writer}
use Rattle.octets.specs.Output.{Begun, Put, no_space}
use Rattle.script_results.specs.Output.{WrittenAt, answer_at, left_at}

-- it fitted, and was put by a writer that is gone: the output is as it left it
pub fitted-at : (w : Writer) {out : MutBor (List ℕ)} {u : Writer} {b n : List ℕ} {i k : ℕ}
    → Begun out i u → k ≡ w.at → Put u b w → (out.ghost_name ≡ w.out.ghost_name → n ≡ w.out.now) → i + length b ≤ length out.now
    → WrittenAt out.now i b n (Ok k)
unfolding answer_at left_at
fitted-at w {out} {u} {b} {i = i} {k} g t p e h =
    let l : k ≡ i + length b = omega (arith, p.next_is, g.at_is) in
    record {
      answered = rw (le-ltb (length out.now) (i + length b) h) (ap Ok l);
      list = rw (le-ltb (length out.now) (i + length b) h) (e (sym (p.same ∙ g.same)) ∙ rw (← g.list, ← g.at_is) p.list);
    }

pub short-at : {o b : List ℕ} {i : ℕ} → length o < i + length b → WrittenAt o i b o (Err no_space)
unfolding answer_at left_at
short-at {o} {b} {i} h = record { answered = rw (lt-ltb (length o) (i + length b) h); list = rw (lt-ltb (length o) (i + length b) h) }
