-- One eliminator for every claim about what a body says.
-- Assumes nothing.
use Prim.Native.Nat.{ℕ}
use mathlib.Core.Path.{◌≡◌, refl, ap, ◌∙◌}
use mathlib.Core.Logic.{◌⊎◌, inl, inr}
use mathlib.Core.Bool.{Bool, true, false, cond}
use mathlib.Core.List.{List, [], ◌∷◌}
use lib.Dec.{eqb}
use lib.ListN.{drop}
use borrow.Author.Tests.{eqb-true}
use Rattle.octets.specs.Parse.{Parse, bad, got, and_then}
use Rattle.octets.specs.BigEndian.{uint}
use Rattle.messages.specs.Incoming.{Incoming, malformed, set_chunk_size, abort, acknowledgement, window_size, peer_bandwidth, user_control, command, values, audio, video, unknown, Command, Data, whole, bandwidth_of, event_of, user_control_of, command_of, after_zero, data_of, decode}
use Rattle.messages.specs.Steps.{leading_zero}
use Rattle.messages.specs.declared.rtmp_message.PeerBandwidthLimitType.{PeerBandwidthLimitType}
use Rattle.messages.specs.declared.rtmp_message.UserControlEvent.{UserControlEvent}
use Rattle.messages.proofs.CommandLaws.{past-zero}

module _ (P : Incoming → Type 0) where
  type-is : (t n : ℕ) (i j : Incoming) → (t ≡ n → P i) → P j → P (cond (eqb t n) i j)
  type-is t n i j f g = go (eqb t n) refl
    where
      go : (b : Bool) → eqb t n ≡ b → P (cond b i j)
      go true e = f (eqb-true _ _ e)
      go false e = g

  whole_is : {A : Type 0} (say : A → Incoming) (p : Parse A) → P malformed → ((a : A) → p ≡ got a [] → P (say a)) → P (whole say p)
  whole_is say bad m h = m
  whole_is say (got a []) m h = h a refl
  whole_is say (got a (x ∷ r)) m h = m

  -- what a body of type t says: a command starts at the first byte, or in type 17 past one leading 0
  pub record Cases (t : ℕ) (s : List ℕ) : Type 0 where
    pub malformeds : P malformed
    pub chunk_sizes : (n : ℕ) → P (set_chunk_size n)
    pub aborts : (n : ℕ) → P (abort n)
    pub acknowledgements : (n : ℕ) → P (acknowledgement n)
    pub windows : (n : ℕ) → P (window_size n)
    pub bandwidths : (n : ℕ) (l : PeerBandwidthLimitType) → P (peer_bandwidth n l)
    pub events : (e : UserControlEvent) → P (user_control e)
    pub audios : P audio
    pub videos : P video
    pub unknowns : P unknown
    pub datas : (t ≡ 15) ⊎ (t ≡ 18) → (d : Data) → data_of s ≡ got d [] → P (values d)
    pub commands : (t ≡ 17) ⊎ (t ≡ 20) → (at : ℕ) (c : Command) → command_of (drop at s) ≡ got c [] → P (command c)

  pub decode-cases : (t : ℕ) (s : List ℕ) → Cases t s → P (decode t s)
  unfolding decode user_control_of
  decode-cases t s h =
      type-is t 1 _ _ (λ e. whole_is set_chunk_size (uint 4 s) h.malformeds (λ n q. h.chunk_sizes n))
      (type-is t 2 _ _ (λ e. whole_is abort (uint 4 s) h.malformeds (λ n q. h.aborts n))
      (type-is t 3 _ _ (λ e. whole_is acknowledgement (uint 4 s) h.malformeds (λ n q. h.acknowledgements n))
      (type-is t 4 _ _ (λ e. whole_is user_control (and_then (uint 2 s) event_of) h.malformeds (λ n q. h.events n))
      (type-is t 5 _ _ (λ e. whole_is window_size (uint 4 s) h.malformeds (λ n q. h.windows n))
      (type-is t 6 _ _ (λ e. whole_is (λ b. peer_bandwidth b.size b.limit) (bandwidth_of s) h.malformeds (λ b q. h.bandwidths b.size b.limit))
      (type-is t 8 _ _ (λ e. h.audios)
      (type-is t 9 _ _ (λ e. h.videos)
      (type-is t 15 _ _ (λ e. whole_is values (data_of s) h.malformeds (h.datas (inl e)))
      (type-is t 17 _ _ (λ e. whole_is command (command_of (after_zero s)) h.malformeds (λ c q. h.commands (inl e) (leading_zero s) c (ap command_of (past-zero s) ∙ q)))
      (type-is t 18 _ _ (λ e. whole_is values (data_of s) h.malformeds (h.datas (inr e)))
      (type-is t 20 _ _ (λ e. whole_is command (command_of s) h.malformeds (h.commands (inr e) 0))
      h.unknowns)))))))))))
