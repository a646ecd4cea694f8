-- The eight places, as a list.
-- Assumes nothing.
use Rattle.std.specs.Prelude.{ℕ, suc, ◌≡◌, refl, Bool, true, false, cond, not, ◌&&◌, List, [], ◌∷◌, map, eqb, ltb, set, Option, Some, None}
use Rattle.std.specs.Option.{is_none}
use Rattle.std.specs.List.{list_all, list_any, position_or_len}
use Rattle.requests.specs.Texts.{stored, text_sound}
use Rattle.requests.specs.declared.outstanding_transaction.OutstandingTransaction.{OutstandingTransaction}
use Rattle.requests.specs.declared.place.Place.{Place}
use Rattle.requests.specs.declared.place.Request.{Request}
use Rattle.requests.specs.declared.text.Text.{Text}
use Rattle.messages.specs.declared.ids.TransactionNumber.{TransactionNumber}

-- a place with no request
abbrev pub empty_place : Place
empty_place = record { request = None; text = stored [] }

-- the number and the kind of a place's request
abbrev pub Slot : Type 0
Slot = Option (TransactionNumber × OutstandingTransaction)

-- open under the number n
abbrev pub open_as : ℕ → Slot → Bool
open_as n None = false
open_as n (Some (m, k)) = eqb m.0 n

-- how many requests are open
unfoldable pub open_count : List Place → ℕ
open_count [] = 0
open_count (p ∷ ps) = cond (is_none p.request) (open_count ps) (suc (open_count ps))

abbrev pub held_by : ℕ → Slot → Text → Option Request → Option Request
held_by n None t others = others
held_by n (Some (m, k)) t others = cond (eqb m.0 n) (Some (record { kind = k; text = t })) others

-- the request that is open under the number n
unfoldable pub lookup : ℕ → List Place → Option Request
lookup n [] = None
lookup n (p ∷ ps) = held_by n p.request p.text (lookup n ps)

-- the places with the request under the number n closed, its place emptied
unfoldable pub without : ℕ → List Place → List Place
without n ps = map (λ p. cond (open_as n p.request) empty_place p) ps

-- the first free place, or as many as there are where none is free
unfoldable pub first_free : List Place → ℕ
first_free ps = position_or_len (λ p. is_none p.request) ps

-- The place that a new request takes. Document 01 leaves open which of the free ones it is, so this is sealed: `proofs/PlaceLaws.antt` has what
-- holds of it, that it was free if fewer than eight are open, and that the others stay. Only the code that looks for it and the tables of
-- computed runs use `free_place_is`.
pub free_place : List Place → ℕ
free_place ps = first_free ps

pub free_place_is : (ps : List Place) → free_place ps ≡ first_free ps
unfolding free_place
free_place_is ps = refl

-- a request put there
unfoldable pub put : Place → List Place → List Place
put p ps = set ps (free_place ps) p

-- some place is open under the number n
unfoldable pub has_number : ℕ → List Place → Bool
has_number n ps = list_any (λ p. open_as n p.request) ps

-- an open number is not 0, below the next number and not doubled, and its text is sound; a free place may hold anything
unfoldable pub place_sound : ℕ → Slot → Text → List Place → Bool
place_sound next None t others = true
place_sound next (Some (n, k)) t others = (ltb 0 n.0 && ltb n.0 next) && (not (has_number n.0 others) && text_sound t)

unfoldable pub places_sound : ℕ → List Place → Bool
places_sound next [] = true
places_sound next (p ∷ ps) = place_sound next p.request p.text ps && places_sound next ps

-- no request is open
unfoldable pub all_free : List Place → Bool
all_free ps = list_all (λ p. is_none p.request) ps
