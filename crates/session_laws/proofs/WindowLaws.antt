-- Which messages set a window: those of type 5, and no other.
-- Assumes nothing.
use Prim.Native.Nat.{ℕ, ◌^◌, ◌<◌}
use native.Mathlib.Omega.{arith}
use mathlib.Core.Path.{◌≡◌, refl, sym, ap, ◌∙◌}
use mathlib.Core.Bool.{Bool, true, false, cond}
use mathlib.Core.List.{List, [], ◌∷◌}
use lib.Dec.{eqb}
use lib.ListN.{length}
use borrow.Author.Tests.{eqb-true}
use Rattle.octets.specs.Parse.{Parse, bad, got, and_then}
use Rattle.octets.specs.BigEndian.{Bytes, be, uint}
use Rattle.octets.proofs.BigEndianLaws.{be-lt}
use Rattle.messages.specs.Incoming.{Incoming, malformed, set_chunk_size, abort, acknowledgement, window_size, peer_bandwidth, user_control, command, values, audio, video, unknown, whole, bandwidth_of, event_of, user_control_of, command_of, after_zero, data_of, decode}
use Rattle.messages.proofs.WholeLaws.{whole-uint}
use Rattle.requests.proofs.BoolLaws.{by_cases}
use Rattle.session_laws.proofs.DecideLaws.{clash, true_false}

abbrev pub is_window : Incoming → Bool
is_window (window_size n) = true
is_window malformed = false
is_window (set_chunk_size n) = false
is_window (abort n) = false
is_window (acknowledgement n) = false
is_window (peer_bandwidth n l) = false
is_window (user_control e) = false
is_window (command c) = false
is_window (values d) = false
is_window audio = false
is_window video = false
is_window unknown = false

abbrev pub is_bad : Incoming → Bool
is_bad malformed = true
is_bad (window_size n) = false
is_bad (set_chunk_size n) = false
is_bad (abort n) = false
is_bad (acknowledgement n) = false
is_bad (peer_bandwidth n l) = false
is_bad (user_control e) = false
is_bad (command c) = false
is_bad (values d) = false
is_bad audio = false
is_bad video = false
is_bad unknown = false

either : (b : Bool) (i j : Incoming) → is_window i ≡ false → is_window j ≡ false → is_window (cond b i j) ≡ false
either true i j h k = h
either false i j h k = k

no_whole : {A : Type 0} (say : A → Incoming) (p : Parse A) → ((a : A) → is_window (say a) ≡ false) → is_window (whole say p) ≡ false
no_whole say bad h = refl
no_whole say (got a []) h = h a
no_whole say (got a (x ∷ r)) h = refl

not_five : (k : ℕ) (s : List ℕ) → eqb k 5 ≡ false → is_window (decode k s) ≡ false
unfolding decode user_control_of
not_five k s h =
    either (eqb k 1) _ _ (no_whole set_chunk_size (uint 4 s) (λ a. refl))
    (either (eqb k 2) _ _ (no_whole abort (uint 4 s) (λ a. refl))
    (either (eqb k 3) _ _ (no_whole acknowledgement (uint 4 s) (λ a. refl))
    (either (eqb k 4) _ _ (no_whole user_control (and_then (uint 2 s) event_of) (λ a. refl))
    (rw h
    (either (eqb k 6) _ _ (no_whole (λ a. peer_bandwidth a.size a.limit) (bandwidth_of s) (λ a. refl))
    (either (eqb k 8) _ _ refl
    (either (eqb k 9) _ _ refl
    (either (eqb k 15) _ _ (no_whole values (data_of s) (λ a. refl))
    (either (eqb k 17) _ _ (no_whole command (command_of (after_zero s)) (λ a. refl))
    (either (eqb k 18) _ _ (no_whole values (data_of s) (λ a. refl))
    (either (eqb k 20) _ _ (no_whole command (command_of s) (λ a. refl))
    refl)))))))))))

pub at_five : (k : ℕ) (s : List ℕ) → eqb k 5 ≡ true → decode k s ≡ whole window_size (uint 4 s)
unfolding decode
at_five k s h = rw (eqb-true k 5 h)

is-five : (p : Parse ℕ) → is_bad (whole window_size p) ≡ false → is_window (whole window_size p) ≡ true
is-five bad h = cc
is-five (got n []) h = refl
is-five (got n (x ∷ r)) h = cc

-- of a message that follows its layout
pub sets-window : (k : ℕ) (s : List ℕ) → is_bad (decode k s) ≡ false → is_window (decode k s) ≡ eqb k 5
sets-window k s g =
    by_cases (eqb k 5) (λ h. let e = at_five k s h in rw (h, e) (is-five (uint 4 s) (rw e at g))) (λ h. not_five k s h ∙ sym h)

pub window_below : (k : ℕ) (s : List ℕ) {n : ℕ} → Bytes s → decode k s ≡ window_size n → n < 2 ^ 32
window_below k s {n} o e =
    by_cases (eqb k 5)
    (λ h. fits (eqb (length s) 4) refl (sym (whole-uint window_size 4 s) ∙ sym (at_five k s h) ∙ e))
    (λ h. true_false (ap is_window e) (not_five k s h))
  where
    fits : (b : Bool) → eqb (length s) 4 ≡ b → cond b (window_size (be s)) malformed ≡ window_size n → n < 2 ^ 32
    fits true h f = let q : be s ≡ n = cc in let l = eqb-true (length s) 4 h in let m = be-lt s o in omega (arith, ap (λ j. 256 ^ j) l)
    fits false h f = clash (cc)
