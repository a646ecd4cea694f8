-- The statements of specs/Numbered.antt.
-- Assumes nothing.
use Prim.Native.Nat.{ℕ, ◌+◌, ◌^◌, ◌<◌}
use native.Mathlib.Omega.{arith}
use mathlib.Core.Path.{◌≡◌, refl, ap, subst}
use mathlib.Core.Bool.{Bool, true, false, cond, ◌&&◌}
use mathlib.Core.List.{List, [], ◌∷◌}
use lib.Dec.{ltb}
use lib.ListN.{length}
use borrow.Author.Tests.{leb-false, not-false}
use Rattle.std.specs.Prelude.{is_some, Option, Some, None}
use Rattle.messages.specs.declared.ids.RtmpTimestamp.{RtmpTimestamp}
use Rattle.bodies.specs.Sent.{request_number}
use Rattle.bodies.proofs.CommandRound.{Sendable}
use Rattle.bodies.proofs.SentLaws.{connect-number, create_stream-number}
use Rattle.requests.specs.Table.{none}
use Rattle.requests.specs.Texts.{fits, text_of, text_sound}
use Rattle.requests.specs.declared.outstanding_transaction.OutstandingTransaction.{OutstandingTransaction}
use Rattle.requests.specs.declared.text.Text.{Text}
use Rattle.requests.proofs.BoolLaws.{by_cases, and_left, and_right}
use Rattle.requests.proofs.TextLaws.{fits-length, fits-utf8, text-sound}
use Rattle.session.specs.Calls.{Call, connect, play, publish, stop_playback, stop_publishing, ping, picture, sound, metadata, bytes, message, plain, sends, one}
use Rattle.session.specs.Outcomes.{in_turn, sent_by, output}
use Rattle.session.specs.Plan.{Plan, go, Check, in_order, if_long, if_spent, if_eight_open, connect_next, request}
use Rattle.session.specs.Record.{url_sound, url_of, texts_sound, chunk_sound, is_session, fresh, open_of}
use Rattle.session.specs.Step.{Stepped, fitted, plan, step}
use Rattle.session.specs.declared.config.ClientSessionConfig.{ClientSessionConfig}
use Rattle.session.specs.declared.record.ClientSession.{ClientSession}
use Rattle.session_laws.specs.Kept.{ClosesBy, reply}
use Rattle.session_laws.specs.Lines.{Turn, Line, step_of, line_of, lines, after}
use Rattle.session_laws.specs.Numbered.{asks, all_given, Rises, Sends, SendsNext, FromOne}
use Rattle.session_laws.specs.Refusals.{is_refused}
use Rattle.session_laws.proofs.DecideLaws.{clash}
use Rattle.session_laws.proofs.SentLaws.{reads_back}
use Rattle.session_laws.proofs.StepLaws.{Went, stays, shuts, moves, went}
use Rattle.session_laws.proofs.AcknowledgedLaws.{open_is}

-- the next number
shut_next : {s : ClientSession} {c : Call} {t : ClientSession} → ClosesBy s c t → t.requests.next ≡ s.requests.next
shut_next (reply k time x b d t e w) = w.next_stays

rises_went : (s : ClientSession) (c : Call) {old : List ℕ} (r : Stepped) → Went s c old r →
    r.session.requests.next ≡ s.requests.next + cond (is_refused r.outcome) 0 (asks c)
rises_went s c r (stays e h) = omega arith
rises_went s c r (shuts e t h w m) = omega (arith, shut_next w)
rises_went s c r (moves rs t m) = m.next

pub rises : Rises
rises s t = rises_went s t.call (step_of s t) (went s t.call t.lent t.clock)

all_rise : (s : ClientSession) (ts : List Turn) → (after s ts).requests.next ≡ s.requests.next + all_given (lines s ts)
unfolding after lines all_given
all_rise s [] = omega arith
all_rise s (t ∷ ts) = omega (arith, rises s t, all_rise (step_of s t).session ts)

-- what a request sends
module _ (s : ClientSession) (clock : RtmpTimestamp) (c : Call) (old : List ℕ) where
  abbrev line_by : Stepped → Line
  line_by r = record { call = c; outcome = r.outcome; output = r.output }

  -- of a plan: if it isn't turned away, it sends the next number
  abbrev Numbers : Stepped → Type 0
  Numbers r = is_refused r.outcome ≡ false → Sends (line_by r) s.requests.next

  numbers-or : (k : Check) (ks : List Check) (p : Plan) → (k.when ≡ false → Numbers (fitted s old (in_order ks p))) →
      Numbers (fitted s old (in_order (k ∷ ks) p))
  unfolding fitted in_order
  numbers-or k ks p f q = by_cases k.when (λ h. let z = rw h at q in clash (cc)) (λ h. rw h (f h (rw h at q)))

  numbers-go : (body : List ℕ) (t : ClientSession) → request_number 20 body ≡ Some s.requests.next →
      Numbers (fitted s old (in_order [] (go (one (sends (plain 20 clock body))) t)))
  unfolding fitted in_order in_turn sent_by
  numbers-go body t e q =
      by_cases (ltb (length old) (length (output (one (sends (plain 20 clock body)))))) (λ h. let z = rw h at q in clash (cc))
      (λ h. rw h (record { one = plain 20 clock body; sent = reads_back old (one (sends (plain 20 clock body))); number = e }))

  numbers : (own : Check) (kind : OutstandingTransaction) (t body : List ℕ) →
      (fits t ≡ true → s.requests.next < 2 ^ 32 → request_number 20 body ≡ Some s.requests.next) →
      Numbers (fitted s old (request s clock own kind t body))
  unfolding request
  numbers own kind t body f =
      numbers-or own _ _ λ h.
      numbers-or (if_long t) _ _ λ g.
      numbers-or (if_spent s) _ _ λ n.
      numbers-or (if_eight_open s) _ _ λ o.
      numbers-go body _ (f (not-false _ g) (leb-false 4294967296 s.requests.next n))

-- the texts of a connect
fits-sendable : (t : List ℕ) → fits t ≡ true → Sendable t
fits-sendable t h = record { short = omega (arith, fits-length t h); chars = fits-utf8 t h }

sound-sendable : (t : Text) → text_sound t ≡ true → Sendable (text_of t)
sound-sendable t h = let w = text-sound t h in record { short = omega (arith, w.1); chars = w.0 }

session-texts : (s : ClientSession) → is_session s ≡ true → texts_sound s.config ≡ true
unfolding is_session
session-texts s h = and_left (texts_sound s.config) _ (and_left (texts_sound s.config && chunk_sound s.config.chunk_size) _ h)

url-sendable : (o : Option Text) → url_sound o ≡ true → is_some o ≡ true → Sendable (url_of o)
url-sendable None h e = clash (cc)
url-sendable (Some t) h e = sound-sendable t h

connect-sends : (s : ClientSession) (app : List ℕ) → is_session s ≡ true → fits app ≡ true → s.requests.next < 2 ^ 32 →
    request_number 20 (connect_next s app) ≡ Some s.requests.next
unfolding texts_sound
connect-sends s app h f n =
    let w = session-texts s h in
    connect-number s.requests.next app _ _ _ (fits-sendable app f)
    (sound-sendable s.config.flash_version (and_left (text_sound s.config.flash_version) _ w))
    (url-sendable s.config.tc_url (and_right (text_sound s.config.flash_version) _ w))
    n

module _ (s : ClientSession) (clock : RtmpTimestamp) (old : List ℕ) (h : is_session s ≡ true) where
  numbers-plan : (c : Call) → asks c ≡ 1 → Numbers s clock c old (fitted s old (plan s clock c))
  unfolding plan
  numbers-plan (connect app) e = numbers s clock (connect app) old _ _ app _ (connect-sends s app h)
  numbers-plan (play key) e = numbers s clock (play key) old _ _ key _ (λ f n. create_stream-number s.requests.next n)
  numbers-plan (publish key t) e = numbers s clock (publish key t) old _ _ key _ (λ f n. create_stream-number s.requests.next n)
  numbers-plan stop_playback e = clash e
  numbers-plan stop_publishing e = clash e
  numbers-plan ping e = clash e
  numbers-plan (picture b t d) e = clash e
  numbers-plan (sound b t d) e = clash e
  numbers-plan (metadata m text) e = clash e
  numbers-plan (bytes n) e = clash e
  numbers-plan (message k t x b) e = clash e

numbers-step : (s : ClientSession) (clock : RtmpTimestamp) (c : Call) (old : List ℕ) → asks c ≡ 1 → Numbers s clock c old (step s clock c old)
unfolding step
numbers-step s clock c old e q =
    by_cases (is_session s) (λ h. rw h (numbers-plan s clock old h c e (rw h at q))) (λ h. let z = rw h at q in clash (cc))

-- a line that was given a number wasn't turned away
given-passes : (b : Bool) (n : ℕ) → cond b 0 n ≡ 1 → (b ≡ false) × (n ≡ 1)
given-passes true n h = clash h
given-passes false n h = (refl, h)

pub sends-next : SendsNext
sends-next s t e =
    let w = given-passes (is_refused (step_of s t).outcome) (asks t.call) e in
    numbers-step s t.clock t.call t.lent w.1 w.0

first_next : (c : ClientSessionConfig) → (open_of c).session.requests.next ≡ 1
unfolding fresh none
first_next c = ap (λ s. s.requests.next) (open_is c)

pub from_one : FromOne
from_one c q ts t e =
    let s = (open_of c).session in
    let n : (after s ts).requests.next ≡ 1 + all_given (lines s ts) = omega (arith, all_rise s ts, first_next c) in
    subst (Sends (line_of (after s ts) t)) n (sends-next (after s ts) t e)
