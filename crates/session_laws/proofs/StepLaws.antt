-- What a step comes to, from what its plan comes to: the statements of specs/Kept.antt and specs/Sound.antt.
-- Assumes nothing.
use Prim.Native.Nat.{ℕ, ◌≤◌}
use native.Mathlib.Omega.{arith}
use mathlib.Core.Path.{◌≡◌, refl, sym, ap, ◌∙◌}
use mathlib.Core.Logic.{inl}
use mathlib.Core.Bool.{true, false, ◌&&◌}
use mathlib.Core.List.{List}
use borrow.Author.Tests.{le-ltb}
use lib.Dec.{ltb}
use lib.ListN.{length}
use Rattle.std.specs.Prelude.{Err, Ok}
use Rattle.messages.specs.declared.ids.RtmpTimestamp.{RtmpTimestamp}
use Rattle.requests.proofs.BoolLaws.{by_cases, and_left, and_right}
use Rattle.requests.proofs.TableLaws.{length_none, none-sound}
use Rattle.requests.specs.Table.{requests_sound}
use Rattle.session.specs.Calls.{Call, Results, nothing}
use Rattle.session.specs.Outcomes.{output, written, outcome_of}
use Rattle.session.specs.Plan.{Plan, refuse, close, go}
use Rattle.session.specs.Record.{texts_sound, chunk_sound, is_session, fresh, open_of}
use Rattle.session.specs.Step.{Stepped, away, fitted, plan, step}
use Rattle.session.specs.declared.config.ClientSessionConfig.{ClientSessionConfig}
use Rattle.session.specs.declared.errors.ClientSessionError.{ClientSessionError}
use Rattle.session.specs.declared.errors.ClientSessionError.TheVariants.{Space, NotASession}
use Rattle.session.specs.declared.record.ClientSession.{ClientSession}
use Rattle.session_laws.specs.Kept.{closes, ClosesBy, Kept, EveryRefusal}
use Rattle.session_laws.specs.Sound.{Sound, Within, OfBytes, Opened, FromOpening, StaysSound, StaysWithin}
use Rattle.session_laws.proofs.DecideLaws.{clash, true_false}
use Rattle.session_laws.proofs.OrderLaws.{refused_true}
use Rattle.session_laws.proofs.MoveLaws.{Moved, Good, streamless}
use Rattle.session_laws.proofs.ArrivalLaws.{good}

pub data Went (s : ClientSession) (c : Call) (old : List ℕ) : Stepped → Type 0 where
  stays : (e : ClientSessionError) → closes e ≡ false → Went s c old (away e s old)
  shuts : (e : ClientSessionError) (t : ClientSession) → closes e ≡ true → ClosesBy s c t → Moved s c nothing t → Went s c old (away e t old)
  moves : (rs : Results) (t : ClientSession) → Moved s c rs t → Went s c old (record { outcome = Ok (outcome_of rs); session = t; output = written old rs })

module _ (s : ClientSession) (c : Call) (old : List ℕ) where
  went-fitted : (p : Plan) → Good s c p → Went s c old (fitted s old p)
  unfolding fitted
  went-fitted (refuse e) g = stays e g
  went-fitted (close e t) g = shuts e t g.0 g.1 g.2
  went-fitted (go rs t) g = by_cases (ltb (length old) (length (output rs))) (λ h. rw h (stays Space refl)) (λ h. rw h (moves rs t g))

  pub went : (clock : RtmpTimestamp) → Went s c old (step s clock c old)
  unfolding step
  went clock = by_cases (is_session s) (λ h. rw h (went-fitted (plan s clock c) (good s clock c))) (λ h. rw h (stays NotASession refl))

  keeps : (e : ClientSessionError) (r : Stepped) → Went s c old r → r.outcome ≡ Err e → Kept s c old e r
  keeps e r (stays d h) q =
      let p : d ≡ e = cc in record { output_stays = refl; session_stays = λ k. refl; request_closed = λ k. true_false k (ap closes (sym p) ∙ h) }
  keeps e r (shuts d t h w m) q =
      let p : d ≡ e = cc in record { output_stays = refl; session_stays = λ k. true_false (ap closes (sym p) ∙ h) k; request_closed = λ k. w }
  keeps e r (moves rs t m) q = true_false (refused_true q) refl

pub every_refusal : EveryRefusal
every_refusal s clock c old e q = keeps s c old e (step s clock c old) (went s c old clock) q

-- a plan that goes on where there is space
pub step-go : (s : ClientSession) (clock : RtmpTimestamp) (c : Call) (old : List ℕ) (rs : Results) (t : ClientSession) →
    is_session s ≡ true → plan s clock c ≡ go rs t → length (output rs) ≤ length old →
    step s clock c old ≡ record { outcome = Ok (outcome_of rs); session = t; output = written old rs }
unfolding step fitted
step-go s clock c old rs t h e l = rw (h, e, le-ltb (length old) (length (output rs)) l)

-- soundness: what 13 looks at is the settings and the requests
requests-sound : (s : ClientSession) → is_session s ≡ true → requests_sound s.requests ≡ true
unfolding is_session
requests-sound s h = and_right (texts_sound s.config && chunk_sound s.config.chunk_size) (requests_sound s.requests) h

still-session : (s t : ClientSession) → t.config ≡ s.config → requests_sound t.requests ≡ true → is_session s ≡ true → is_session t ≡ true
unfolding is_session
still-session s t e r h =
    let w = and_left (texts_sound s.config && chunk_sound s.config.chunk_size) (requests_sound s.requests) h in
    rw (e, r) (ap (λ b. b && true) w)

moved-sound : {s : ClientSession} {c : Call} {rs : Results} {t : ClientSession} → Moved s c rs t → Sound s → Sound t
moved-sound {s} {c} {rs} {t} m h =
    let r = m.requests (record { sound = requests-sound s h.session; eight = h.eight }) in
    record {
      session = still-session s t m.config r.sound h.session;
      eight = r.eight;
      streamed = m.streamed h.streamed;
      total = m.total h.total;
    }

sound-went : {s : ClientSession} {c : Call} {old : List ℕ} (r : Stepped) → Went s c old r → Sound s → Sound r.session
sound-went r (stays e h) k = k
sound-went r (shuts e t h w m) k = moved-sound m k
sound-went r (moves rs t m) k = moved-sound m k

pub stays-sound : StaysSound
stays-sound s clock c old h = sound-went (step s clock c old) (went s c old clock) h

within-went : {s : ClientSession} {c : Call} {old : List ℕ} (r : Stepped) → Went s c old r → OfBytes c → Within s.link → Within r.session.link
within-went r (stays e h) o w = w
within-went r (shuts e t h v m) o w = m.within o w
within-went r (moves rs t m) o w = m.within o w

pub stays_within : StaysWithin
stays_within s clock c old o w = within-went (step s clock c old) (went s c old clock) o w

-- opening
fresh-opened : (c : ClientSessionConfig) → is_session (fresh c) ≡ true → Opened (fresh c)
unfolding fresh
fresh-opened c h =
    record {
      sound = record { session = h; eight = length_none; streamed = streamless _ (inl refl); total = omega arith };
      within = record { window_below = λ w e. clash (cc); pending_below = omega arith };
    }

fresh-session : (c : ClientSessionConfig) → texts_sound c ≡ true → chunk_sound c.chunk_size ≡ true → is_session (fresh c) ≡ true
unfolding is_session fresh
fresh-session c h k = rw (h, k, none-sound)

pub from-opening : FromOpening
unfolding open_of
from-opening c q =
    by_cases (texts_sound c)
    (λ h. by_cases (chunk_sound c.chunk_size) (λ k. rw (h, k) (fresh-opened c (fresh-session c h k))) (λ k. let z = rw (h, k) at q in clash (cc)))
    (λ h. let z = rw h at q in clash (cc))
