-- Refusal 13's test decides its condition, and opening's test of texts its own.
-- Assumes nothing.
use Prim.Native.Nat.{ℕ, zero, suc, ◌≤◌, ◌<◌}
use native.Mathlib.Omega.{arith}
use mathlib.Core.Path.{◌≡◌, refl, ap, ◌∙◌}
use mathlib.Core.Logic.{◌⊎◌, inl, inr, ⊎_elim}
use mathlib.Core.Bool.{Bool, true, false, not, ◌&&◌, ◌||◌, or-true}
use mathlib.Core.List.{List, [], ◌∷◌}
use lib.Dec.{ltb, leb}
use borrow.Author.Tests.{eqb-true, eq-eqb}
use Rattle.std.specs.Prelude.{Option, Some, None}
use Rattle.requests.specs.Texts.{text_sound}
use Rattle.requests.specs.Places.{Slot, open_as, has_number, place_sound, places_sound}
use Rattle.requests.specs.Table.{requests_sound}
use Rattle.requests.specs.declared.place.Place.{Place}
use Rattle.requests.specs.declared.text.Text.{Text}
use Rattle.session.specs.Record.{url_sound, texts_sound, chunk_sound, is_session}
use Rattle.session.specs.declared.config.ClientSessionConfig.{ClientSessionConfig}
use Rattle.session.specs.declared.record.ClientSession.{ClientSession}
use Rattle.session_laws.specs.Conditions.{UnfitText, UnfitUrl, LargeChunk, number_of, number_in, BadPlace, zero as is_zero, doubled, not_below, bad_text, NoSession, flash_version, tc_url, chunk_size, next_zero, next_above, in_places}
use Rattle.session_laws.proofs.DecideLaws.{Decides, clash, decides_as, decides_true, decides_and, decides_not_lt, decides_not_le, decides-stored}

-- a number that some place has
or_cases : (a b : Bool) → (a || b) ≡ true → (a ≡ true) ⊎ (b ≡ true)
or_cases true b h = inl refl
or_cases false b h = inr h

open-as : (n : ℕ) (g : Slot) → open_as n g ≡ true → number_of g ≡ Some n
open-as n None h = clash (cc)
open-as n (Some (m, k)) h = ap Some (eqb-true m.0 n h)

as_open : (n : ℕ) (g : Slot) → number_of g ≡ Some n → open_as n g ≡ true
as_open n None h = clash (cc)
as_open n (Some (m, k)) h = eq-eqb m.0 n (cc)

has-number : (n : ℕ) (ps : List Place) → has_number n ps ≡ true → (i : ℕ) × (number_in ps i ≡ Some n)
unfolding has_number
has-number n [] h = clash (cc)
has-number n (p ∷ ps) h =
    ⊎_elim (λ a. (0, open-as n p.request a)) (λ b. let w = has-number n ps b in (suc w.0, w.1)) (or_cases (open_as n p.request) (has_number n ps) h)

number-has : (n : ℕ) (ps : List Place) (i : ℕ) → number_in ps i ≡ Some n → has_number n ps ≡ true
unfolding has_number
number-has n [] i h = clash (cc)
number-has n (p ∷ ps) zero h = rw (as_open n p.request h)
number-has n (p ∷ ps) (suc i) h = rw (number-has n ps i h) (or-true (open_as n p.request))

-- what is wrong with the first place
abbrev Head : ℕ → Slot → Text → List Place → Type 0
Head next g t others = (n : ℕ) × (number_of g ≡ Some n) × (((n ≡ 0) ⊎ (next ≤ n)) ⊎ ((has_number n others ≡ true) ⊎ UnfitText t))

decides-zero : (n : ℕ) → Decides (not (ltb 0 n)) (n ≡ 0)
decides-zero n = decides_as (λ l. omega arith) (λ e. omega arith) (decides_not_lt 0 n)

decides_head : (next : ℕ) (g : Slot) (t : Text) (others : List Place) → Decides (not (place_sound next g t others)) (Head next g t others)
unfolding place_sound
decides_head next None t others = record { holds = λ h. clash (cc); fails = λ h w. let e = w.1 in clash (cc) }
decides_head next (Some (m, k)) t others =
    decides_as (λ w. (m.0, refl, w)) (λ w. let e = w.1 in let q : w.0 ≡ m.0 = cc in rw q at w.2)
    (decides_and (ltb 0 m.0 && ltb m.0 next) (not (has_number m.0 others) && text_sound t)
    (decides_and (ltb 0 m.0) (ltb m.0 next) (decides-zero m.0) (decides_not_lt m.0 next))
    (decides_and (not (has_number m.0 others)) (text_sound t) (decides_true (has_number m.0 others)) (decides-stored t)))

-- at the first place or at another
bad-here : (next : ℕ) (p : Place) (ps : List Place) → Head next p.request p.text ps → BadPlace next (p ∷ ps)
bad-here next p ps (n, e, inl (inl z)) = is_zero 0 (e ∙ ap Some z)
bad-here next p ps (n, e, inl (inr l)) = not_below 0 n e l
bad-here next p ps (n, e, inr (inl d)) = let w = has-number n ps d in doubled 0 (suc w.0) n (omega arith) e w.1
bad-here next p ps (n, e, inr (inr u)) = bad_text 0 n e u

bad-there : (next : ℕ) (p : Place) (ps : List Place) → BadPlace next ps → BadPlace next (p ∷ ps)
bad-there next p ps (is_zero i e) = is_zero (suc i) e
bad-there next p ps (doubled i j n l e f) = doubled (suc i) (suc j) n (omega arith) e f
bad-there next p ps (not_below i n e l) = not_below (suc i) n e l
bad-there next p ps (bad_text i n e u) = bad_text (suc i) n e u

bad-where : (next : ℕ) (p : Place) (ps : List Place) → BadPlace next (p ∷ ps) → Head next p.request p.text ps ⊎ BadPlace next ps
bad-where next p ps (is_zero zero e) = inl (0, e, inl (inl refl))
bad-where next p ps (is_zero (suc i) e) = inr (is_zero i e)
bad-where next p ps (doubled zero zero n l e f) = absurd (omega arith)
bad-where next p ps (doubled zero (suc j) n l e f) = inl (n, e, inr (inl (number-has n ps j f)))
bad-where next p ps (doubled (suc i) zero n l e f) = absurd (omega arith)
bad-where next p ps (doubled (suc i) (suc j) n l e f) = inr (doubled i j n (omega arith) e f)
bad-where next p ps (not_below zero n e l) = inl (n, e, inl (inr l))
bad-where next p ps (not_below (suc i) n e l) = inr (not_below i n e l)
bad-where next p ps (bad_text zero n e u) = inl (n, e, inr (inr u))
bad-where next p ps (bad_text (suc i) n e u) = inr (bad_text i n e u)

no-place : (next : ℕ) → ¬ (BadPlace next [])
no-place next (is_zero i e) = clash (cc)
no-place next (doubled i j n l e f) = clash (cc)
no-place next (not_below i n e l) = clash (cc)
no-place next (bad_text i n e u) = clash (cc)

decides_places : (next : ℕ) (ps : List Place) → Decides (not (places_sound next ps)) (BadPlace next ps)
unfolding places_sound
decides_places next [] = record { holds = λ h. clash (cc); fails = λ h. no-place next }
decides_places next (p ∷ ps) =
    decides_as (⊎_elim (bad-here next p ps) (bad-there next p ps)) (bad-where next p ps)
    (decides_and (place_sound next p.request p.text ps) (places_sound next ps) (decides_head next p.request p.text ps) (decides_places next ps))

decides_url : (o : Option Text) → Decides (not (url_sound o)) (UnfitUrl o)
decides_url None = record { holds = λ h. clash (cc); fails = λ h w. let e = w.1 in clash (cc) }
decides_url (Some t) = decides_as (λ u. (t, refl, u)) (λ w. let e = w.1 in let q : w.0 ≡ t = cc in rw q at w.2) (decides-stored t)

-- opening's test of texts
pub decides_texts : (c : ClientSessionConfig) →
    Decides (not (texts_sound c)) (UnfitText c.flash_version ⊎ UnfitUrl c.tc_url)
unfolding texts_sound
decides_texts c =
    decides_and (text_sound c.flash_version) (url_sound c.tc_url) (decides-stored c.flash_version) (decides_url c.tc_url)

-- the parts of 13
abbrev Parts : ClientSession → Type 0
Parts s =
    ((UnfitText s.config.flash_version ⊎ UnfitUrl s.config.tc_url)
    ⊎ LargeChunk s.config.chunk_size)
    ⊎ (((s.requests.next ≡ 0) ⊎ (4294967296 < s.requests.next)) ⊎ BadPlace s.requests.next s.requests.places)

joined : (s : ClientSession) → Parts s → NoSession s
joined s (inl (inl (inl u))) = flash_version u
joined s (inl (inl (inr w))) = tc_url w
joined s (inl (inr l)) = chunk_size l
joined s (inr (inl (inl z))) = next_zero z
joined s (inr (inl (inr l))) = next_above l
joined s (inr (inr b)) = in_places b

parted : (s : ClientSession) → NoSession s → Parts s
parted s (flash_version u) = inl (inl (inl u))
parted s (tc_url u) = inl (inl (inr u))
parted s (chunk_size l) = inl (inr l)
parted s (next_zero z) = inr (inl (inl z))
parted s (next_above l) = inr (inl (inr l))
parted s (in_places b) = inr (inr b)

pub decides-session : (s : ClientSession) → Decides (not (is_session s)) (NoSession s)
unfolding is_session requests_sound
decides-session s =
    let next = s.requests.next in
    let chunk = s.config.chunk_size in
    decides_as (joined s) (parted s)
    (decides_and (texts_sound s.config && chunk_sound chunk) (requests_sound s.requests)
    (decides_and (texts_sound s.config) (chunk_sound chunk) (decides_texts s.config) (decides_not_le chunk 2147483647))
    (decides_and (ltb 0 next && leb next 4294967296) (places_sound next s.requests.places)
    (decides_and (ltb 0 next) (leb next 4294967296) (decides-zero next) (decides_not_le next 4294967296))
    (decides_places next s.requests.places)))
