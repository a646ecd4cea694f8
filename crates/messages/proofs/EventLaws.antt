-- Bodies of type 4: an event and one number that takes every byte that is left.
-- Assumes nothing.
use Prim.Native.Nat.{ℕ}
use mathlib.Core.Path.{◌≡◌, refl}
use mathlib.Core.Bool.{Bool, true, false, cond}
use mathlib.Core.List.{List}
use lib.Dec.{eqb}
use lib.ListN.{drop}
use borrow.Author.Tests.{ne_eqb}
use Rattle.std.specs.Prelude.{Ok, Err}
use Rattle.octets.specs.Parse.{Parse, got, and_then}
use Rattle.octets.specs.BigEndian.{uint}
use Rattle.messages.specs.Incoming.{malformed, user_control, whole, event_of, user_control_of}
use Rattle.messages.specs.declared.rtmp_message.UserControlEvent.{UserControlEvent}
use Rattle.messages.specs.declared.rtmp_message.UserControlEvent.TheVariants.{StreamBegin, StreamEof, StreamDry, StreamIsRecorded, PingRequest, PingResponse}
use Rattle.messages.proofs.WholeLaws.{whole-then, word, word-is, word_short}
use Rattle.amf0.specs.declared.read.Malformed.{Malformed}

pub control-is : (s : List ℕ) {e : ℕ} (k : ℕ) → uint 2 s ≡ got e (drop 2 s) → e ≡ k → whole user_control (event_of k (drop 2 s)) ≡ user_control_of s
unfolding user_control_of
control-is s k g h = rw (g, h)

module _ (x : List ℕ) where
  -- the number is there
  pub event-is : (g : ℕ → UserControlEvent) {n : ℕ} → Ok n ≡ word x
      → user_control (g n) ≡ whole user_control (and_then (uint 4 x) (λ n r. got (g n) r))
  event-is g h = rw (whole-then user_control g (uint 4 x)) (word-is (λ n. user_control (g n)) x h)

  module _ {d : Malformed} (h : Err d ≡ word x) where
    record Missing (p : Parse UserControlEvent) : Type 0 where
      is : malformed ≡ whole user_control p

    no_number : (g : ℕ → UserControlEvent) → Missing (and_then (uint 4 x) (λ n r. got (g n) r))
    no_number g = record { is = rw (whole-then user_control g (uint 4 x)) (word_short (λ n. user_control (g n)) x h) }

    either : (b : Bool) {p q : Parse UserControlEvent} → Missing p → Missing q → Missing (cond b p q)
    either true i j = i
    either false i j = j

    none : (e : ℕ) → (e ≡ 3 → ⊥) → Missing (event_of e x)
    unfolding event_of
    none e k =
        rw (ne_eqb e 3 k)
        (either (eqb e 0) (no_number (λ n. StreamBegin (record { 0 = n })))
        (either (eqb e 1) (no_number (λ n. StreamEof (record { 0 = n })))
        (either (eqb e 2) (no_number (λ n. StreamDry (record { 0 = n })))
        (either (eqb e 4) (no_number (λ n. StreamIsRecorded (record { 0 = n })))
        (either (eqb e 6) (no_number (λ n. PingRequest (record { 0 = n })))
        (either (eqb e 7) (no_number (λ n. PingResponse (record { 0 = n }))) (record { is = refl })))))))

    pub no-event : (e : ℕ) → (e ≡ 3 → ⊥) → malformed ≡ whole user_control (event_of e x)
    no-event e k = (none e k).is
