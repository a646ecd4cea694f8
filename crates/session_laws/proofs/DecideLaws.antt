-- Tests that decide conditions: numbers, texts, stages, and what is put together from them.
-- Assumes nothing.
use Prim.Native.Nat.{ℕ, ◌≤◌, ◌<◌}
use native.Mathlib.Omega.{arith}
use mathlib.Core.Path.{◌≡◌, refl, ap, ◌∙◌}
use mathlib.Core.Logic.{◌≢◌, ◌⊎◌, inl, inr, ⊎_elim}
use mathlib.Core.Bool.{Bool, true, false, not, ◌&&◌}
use mathlib.Core.List.{List}
use lib.Dec.{ltb, leb}
use lib.ListN.{length}
use borrow.Author.Tests.{ltb-true, ltb-false, leb-true, leb-false, not-true, not-false}
use Rattle.octets.specs.Utf8.{utf8, Octets}
use Rattle.octets.proofs.Utf8Laws.{means, meant}
use Rattle.requests.specs.Texts.{fits, text_of, text_sound}
use Rattle.requests.specs.declared.text.Text.{Text}
use Rattle.session.specs.Plan.{is_disconnected, is_connected, is_play, is_publish, is_publishing}
use Rattle.session.specs.Message.{is_play_requested, is_publish_requested}
use Rattle.session.specs.declared.state.ClientState.{ClientState}
use Rattle.session.specs.declared.state.ClientState.TheVariants.{Disconnected, Connected, PlayRequested, Playing, PublishRequested, Publishing}
use Rattle.session_laws.specs.Conditions.{Unfit, UnfitText}

pub record Decides (b : Bool) (P : Type 0) : Type 0 where
  pub holds : b ≡ true → P
  pub fails : b ≡ false → ¬ P

pub clash {ℓ} : {A : Type ℓ} → ◌≡◌ {A = ℕ} 0 1 → A
clash z = absurd (omega arith)

pub true_false {ℓ} : {A : Type ℓ} {b : Bool} → b ≡ true → b ≡ false → A
true_false h k = clash (cc)

pub decides_as : {b : Bool} {P Q : Type 0} → (P → Q) → (Q → P) → Decides b P → Decides b Q
decides_as f g d = record { holds = λ h. f (d.holds h); fails = λ h q. d.fails h (g q) }

pub decides_true : (b : Bool) → Decides (not (not b)) (b ≡ true)
decides_true true = record { holds = λ h. refl; fails = λ h. clash (cc) }
decides_true false = record { holds = λ h. clash (cc); fails = λ h k. clash (cc) }

pub decides_and : (a b : Bool) {P Q : Type 0} → Decides (not a) P → Decides (not b) Q → Decides (not (a && b)) (P ⊎ Q)
decides_and false b d e = record { holds = λ h. inl (d.holds refl); fails = λ h. clash (cc) }
decides_and true b d e = record { holds = λ h. inr (e.holds h); fails = λ h. ⊎_elim (d.fails refl) (e.fails h) }

module _ (a b : ℕ) where
  pub decides_lt : Decides (ltb a b) (a < b)
  decides_lt = record { holds = ltb-true a b; fails = λ h p. omega (arith, ltb-false a b h) }

  pub decides_le : Decides (leb a b) (a ≤ b)
  decides_le = record { holds = leb-true a b; fails = λ h p. omega (arith, leb-false a b h) }

  pub decides_not_lt : Decides (not (ltb a b)) (b ≤ a)
  decides_not_lt = record { holds = λ h. ltb-false a b (not-true _ h); fails = λ h p. omega (arith, ltb-true a b (not-false _ h)) }

  pub decides_not_le : Decides (not (leb a b)) (b < a)
  decides_not_le = record { holds = λ h. leb-false a b (not-true _ h); fails = λ h p. omega (arith, leb-true a b (not-false _ h)) }

-- a text: `n` is its length as it is given
decides-text : (n : ℕ) (t : List ℕ) → Decides (not (leb n 255 && utf8 t)) ((255 < n) ⊎ (¬ (Octets t)))
decides-text n t =
    decides_and (leb n 255) (utf8 t) (decides_not_le n 255)
    (record { holds = λ h o. true_false (meant o) (not-true _ h); fails = λ h n. n (means t (not-false _ h)) })

pub decides-fits : (t : List ℕ) → Decides (not (fits t)) (Unfit t)
unfolding fits
decides-fits t = decides-text (length t) t

pub decides-stored : (t : Text) → Decides (not (text_sound t)) (UnfitText t)
unfolding text_sound
decides-stored t = decides-text t.len (text_of t)

-- stages
module _ (P : ClientState → Type 0) where
  on_stages : P Disconnected → P Connected → P PlayRequested → P Playing → P PublishRequested → P Publishing → (g : ClientState) → P g
  on_stages a b c d e f Disconnected = a
  on_stages a b c d e f Connected = b
  on_stages a b c d e f PlayRequested = c
  on_stages a b c d e f Playing = d
  on_stages a b c d e f PublishRequested = e
  on_stages a b c d e f Publishing = f

-- a test that is true of one stage, and of no other
module _ (is : ClientState → Bool) (only : ClientState) (here : is only ≡ true) (to : (g : ClientState) → is g ≡ true → g ≡ only) where
  decides-stage : (g : ClientState) → Decides (not (is g)) (g ≢ only)
  decides-stage g = record { holds = λ n e. true_false (ap is e ∙ here) (not-true _ n); fails = λ n k. k (to g (not-false _ n)) }

is-disconnected : (g : ClientState) → is_disconnected g ≡ true → g ≡ Disconnected
is-disconnected = on_stages (λ g. is_disconnected g ≡ true → g ≡ Disconnected) (λ h. refl) (λ h. cc) (λ h. cc) (λ h. cc) (λ h. cc) (λ h. cc)

is-connected : (g : ClientState) → is_connected g ≡ true → g ≡ Connected
is-connected = on_stages (λ g. is_connected g ≡ true → g ≡ Connected) (λ h. cc) (λ h. refl) (λ h. cc) (λ h. cc) (λ h. cc) (λ h. cc)

pub is-publishing : (g : ClientState) → is_publishing g ≡ true → g ≡ Publishing
is-publishing = on_stages (λ g. is_publishing g ≡ true → g ≡ Publishing) (λ h. cc) (λ h. cc) (λ h. cc) (λ h. cc) (λ h. cc) (λ h. refl)

pub is-play-requested : (g : ClientState) → is_play_requested g ≡ true → g ≡ PlayRequested
is-play-requested =
    on_stages (λ g. is_play_requested g ≡ true → g ≡ PlayRequested) (λ h. cc) (λ h. cc) (λ h. refl) (λ h. cc) (λ h. cc) (λ h. cc)

pub is-publish-requested : (g : ClientState) → is_publish_requested g ≡ true → g ≡ PublishRequested
is-publish-requested =
    on_stages (λ g. is_publish_requested g ≡ true → g ≡ PublishRequested) (λ h. cc) (λ h. cc) (λ h. cc) (λ h. cc) (λ h. refl) (λ h. cc)

pub decides_disconnected : (g : ClientState) → Decides (not (is_disconnected g)) (g ≢ Disconnected)
decides_disconnected = decides-stage is_disconnected Disconnected refl is-disconnected

pub decides-connected : (g : ClientState) → Decides (not (is_connected g)) (g ≢ Connected)
decides-connected = decides-stage is_connected Connected refl is-connected

pub decides-publishing : (g : ClientState) → Decides (not (is_publishing g)) (g ≢ Publishing)
decides-publishing = decides-stage is_publishing Publishing refl is-publishing

pub decides_play-requested : (g : ClientState) → Decides (not (is_play_requested g)) (g ≢ PlayRequested)
decides_play-requested = decides-stage is_play_requested PlayRequested refl is-play-requested

pub decides-publish-requested : (g : ClientState) → Decides (not (is_publish_requested g)) (g ≢ PublishRequested)
decides-publish-requested = decides-stage is_publish_requested PublishRequested refl is-publish-requested

pub decides_play : (g : ClientState) → Decides (is_play g) ((g ≡ PlayRequested) ⊎ (g ≡ Playing))
decides_play g =
    record {
      holds =
          on_stages (λ g. is_play g ≡ true → (g ≡ PlayRequested) ⊎ (g ≡ Playing))
          (λ h. clash (cc)) (λ h. clash (cc)) (λ h. inl refl) (λ h. inr refl) (λ h. clash (cc)) (λ h. clash (cc)) g;
      fails = λ h. ⊎_elim (λ e. true_false (ap is_play e) h) (λ e. true_false (ap is_play e) h);
    }

pub decides-publish : (g : ClientState) → Decides (is_publish g) ((g ≡ PublishRequested) ⊎ (g ≡ Publishing))
decides-publish g =
    record {
      holds =
          on_stages (λ g. is_publish g ≡ true → (g ≡ PublishRequested) ⊎ (g ≡ Publishing))
          (λ h. clash (cc)) (λ h. clash (cc)) (λ h. clash (cc)) (λ h. clash (cc)) (λ h. inl refl) (λ h. inr refl) g;
      fails = λ h. ⊎_elim (λ e. true_false (ap is_publish e) h) (λ e. true_false (ap is_publish e) h);
    }
