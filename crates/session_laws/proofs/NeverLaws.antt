-- From the table alone: refusals 13 and 3 never come up in a sound session, and of a message's conditions after 8 one at most holds.
-- Assumes nothing.
use Prim.Native.Nat.{ℕ}
use native.Mathlib.Omega.{arith}
use mathlib.Core.Path.{◌≡◌, refl, ap, subst⁻¹}
use mathlib.Core.Logic.{inl, inr, ⊎_elim}
use mathlib.Core.Bool.{Bool, true, false, not, ◌||◌, or-true}
use mathlib.Core.List.Memᴰ
use mathlib.Core.List.{List, [], ◌∷◌}
use lib.Dec.{eqb}
use borrow.Author.Tests.{eq-eqb}
use Rattle.session.specs.Calls.{Call, connect, play, publish, stop_playback, stop_publishing, ping, picture, sound, metadata, bytes, message}
use Rattle.session.specs.Numbers.{refusal_number}
use Rattle.session.specs.Record.{open_of}
use Rattle.session.specs.declared.errors.ClientSessionError.{ClientSessionError}
use Rattle.session.specs.declared.errors.ClientSessionError.TheVariants.{NoKnownActiveStreamIdWhenRequired, Length, Space, NotASession}
use Rattle.session.specs.declared.record.ClientSession.{ClientSession}
use Rattle.session_laws.specs.Order.{Row, ◌if◌, First}
use Rattle.session_laws.specs.Conditions.{code, NoSession, WrongStage, play_start, publish_start, sound_in, picture_in, BadNotice, notice}
use Rattle.session_laws.specs.Lines.{Turn, Line, step_of, lines, after}
use Rattle.session_laws.specs.Refusals.{sending, between, EveryMessage}
use Rattle.session_laws.specs.Sound.{Sound, Never, NeverOnce, AllAlong, AlwaysSound}
use Rattle.session_laws.specs.Space.{Short}
use Rattle.session_laws.proofs.DecideLaws.{clash, true_false}
use Rattle.session_laws.proofs.RefusalLaws.{every_call}
use Rattle.session_laws.proofs.SessionLaws.{decides-session}
use Rattle.session_laws.proofs.StepLaws.{stays-sound, from-opening}
use Rattle.session_laws.proofs.SortLaws.{sort, notice-sort, wrong_sort, uncreated_sort, unnumbered_sort, bad-sort, peer_sort}

-- some row says the refusal of that number
abbrev says : ℕ → List Row → Bool
says k [] = false
says k (r ∷ rs) = eqb (refusal_number r.says) k || says k rs

first_says : (rows : List Row) (e : ClientSessionError) → First rows e → says (refusal_number e) rows ≡ true
first_says [] e f = absurd f
first_says (r ∷ rs) e (inl f) = rw (eq-eqb (refusal_number r.says) (refusal_number e) (ap refusal_number f.1))
first_says (r ∷ rs) e (inr f) = rw (first_says rs e f.1) (or-true (eqb (refusal_number r.says) (refusal_number e)))

module _ (s : ClientSession) (old : List ℕ) where
  -- the rows between 13 and 12, and 12
  abbrev rest : Call → List Row
  rest c = between s c (Space if Short s c old ∷ [])

  no_thirteen : (c : Call) → says 13 (rest c) ≡ false
  no_thirteen (connect app) = refl
  no_thirteen (play key) = refl
  no_thirteen (publish key t) = refl
  no_thirteen stop_playback = refl
  no_thirteen stop_publishing = refl
  no_thirteen ping = refl
  no_thirteen (picture b t d) = refl
  no_thirteen (sound b t d) = refl
  no_thirteen (metadata m text) = refl
  no_thirteen (bytes n) = refl
  no_thirteen (message k t x b) = refl

  -- at Publishing a sound session has an active stream
  sent-three : (c : Call) (long : Type 0) → Sound s → ¬ (First (sending s long (Space if Short s c old ∷ [])) NoKnownActiveStreamIdWhenRequired)
  sent-three c long h (inl f) = let q = f.1 in clash (cc)
  sent-three c long h (inr (n, inl f)) = ⊎_elim (λ g. n (λ p. clash (cc))) (λ g. n (λ p. clash (cc))) (h.streamed.idle f.0)
  sent-three c long h (inr (n, inr f)) =
      true_false (first_says (Length if long ∷ Space if Short s c old ∷ []) NoKnownActiveStreamIdWhenRequired f.1) refl

  unsaid : (c : Call) → says 3 (rest c) ≡ false → ¬ (First (rest c) NoKnownActiveStreamIdWhenRequired)
  unsaid c z f = true_false (first_says (rest c) NoKnownActiveStreamIdWhenRequired f) z

  no_three : (c : Call) → Sound s → ¬ (First (rest c) NoKnownActiveStreamIdWhenRequired)
  no_three (connect app) h = unsaid (connect app) refl
  no_three (play key) h = unsaid (play key) refl
  no_three (publish key t) h = unsaid (publish key t) refl
  no_three stop_playback h = unsaid stop_playback refl
  no_three stop_publishing h = unsaid stop_publishing refl
  no_three ping h = unsaid ping refl
  no_three (picture b t d) h = sent-three (picture b t d) _ h
  no_three (sound b t d) h = sent-three (sound b t d) _ h
  no_three (metadata m text) h = sent-three (metadata m text) _ h
  no_three (bytes n) h = unsaid (bytes n) refl
  no_three (message k t x b) h = unsaid (message k t x b) refl

a-session : (s : ClientSession) → Sound s → ¬ (NoSession s)
a-session s h = (decides-session s).fails (ap not h.session)

pub never-once : NeverOnce
never-once s clock c old h =
    let e = (every_call s clock c old).turned_away in
    let z = no_thirteen s old c in (
      λ q. ⊎_elim (λ f. a-session s h f.0) (λ f. true_false (first_says (rest s old c) NotASession f.1) z) ((e NotASession).0 q),
      λ q. ⊎_elim (λ f. a-session s h f.0) (λ f. no_three s old c h f.1) ((e NoKnownActiveStreamIdWhenRequired).0 q),
    )

-- one call after the other
all_along : (s : ClientSession) (ts : List Turn) → Sound s → AllAlong s ts
unfolding after lines
all_along s [] h = record { stays = h; never = λ l m. absurd (Memᴰ.not-nil m) }
all_along s (t ∷ ts) h =
    let n = never-once s t.clock t.call t.lent h in
    let w = all_along (step_of s t).session ts (stays-sound s t.clock t.call t.lent h) in
    record {
      stays = w.stays;
      never = λ l m. ⊎_elim (λ e. subst⁻¹ (λ (l : Line). Never l.outcome) e n) (w.never l) (Memᴰ.cases_cons m);
    }

pub always-sound : AlwaysSound
always-sound c q ts = all_along (open_of c).session ts (from-opening c q).sound

-- a notice has a code, or it hasn't
not_both : {s : ClientSession} {k : ℕ} {b : List ℕ} → WrongStage s k b → ¬ (BadNotice k b)
not_both (play_start c n e g) (notice d m f) = let q : d ≡ c = cc in let z = ap code q in clash (cc)
not_both (publish_start c n e g) (notice d m f) = let q : d ≡ c = cc in let z = ap code q in clash (cc)
not_both (sound_in e g h) (notice d m f) = omega (arith, ap sort e, notice-sort m)
not_both (picture_in e g h) (notice d m f) = omega (arith, ap sort e, notice-sort m)

pub every-message : EveryMessage
every-message s k b = (
  λ w. let i = wrong_sort w in
      (λ u. omega (arith, uncreated_sort u), (λ u. omega (arith, unnumbered_sort u), (not_both w, (λ u. omega (arith, peer_sort u), tt)))),
  (
    λ w. let i = uncreated_sort w in (λ u. omega (arith, unnumbered_sort u), (λ u. omega (arith, bad-sort u), (λ u. omega (arith, peer_sort u), tt))),
    (
      λ w. let i = unnumbered_sort w in (λ u. omega (arith, bad-sort u), (λ u. omega (arith, peer_sort u), tt)),
      (λ w. let i = bad-sort w in (λ u. omega (arith, peer_sort u), tt), (λ w. tt, tt)),
    ),
  ),
)
