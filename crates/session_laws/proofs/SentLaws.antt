-- The messages that are read back from an outcome and the output are those that were sent.
-- Assumes nothing.
use Prim.Native.Nat.{ℕ, ◌+◌}
use native.Mathlib.Omega.{arith}
use native.Mathlib.Nat.{zero-add, add-zero}
use mathlib.Core.Path.{◌≡◌, refl, ap, ap₂, ◌∙◌}
use mathlib.Core.List.{List, [], ◌∷◌, ◌++◌, append_assoc}
use lib.ListN.{length, take, drop, length-append}
use lib.Seq.{take_at, drop_at}
use Rattle.std.specs.Prelude.{Ok}
use Rattle.octets.specs.Compare.{part}
use Rattle.session.specs.Calls.{Message, Result, sends, raises, unhandled, Results, nothing, one, two, accepts, pinged}
use Rattle.session.specs.Outcomes.{in_turn, sent_by, bodies, output, written, answered, taken, outcome_of}
use Rattle.session.specs.declared.result.ClientSessionResult.{ClientSessionResult}
use Rattle.session_laws.specs.Lines.{results_of, messages_in}

-- the results with their places, the first at `at`
answers_from : ℕ → List Result → List ClientSessionResult
answers_from at [] = []
answers_from at (r ∷ rs) = answered at r ∷ answers_from (at + taken r) rs

answers-are : (rs : Results) → results_of (Ok (outcome_of rs)) ≡ answers_from 0 (in_turn rs)
unfolding outcome_of results_of in_turn answers_from
answers-are nothing = refl
answers-are (one a) = refl
answers-are (two a b) = rw (zero-add (length a.body))
answers-are (accepts a b) = rw (zero-add (length a.body), add-zero (length a.body))
answers-are (pinged a t) = refl

abbrev with-body : Message → List ℕ → Message
with-body m w = record { type_id = m.type_id; time = m.time; stream = m.stream; droppable = m.droppable; uncompressed = m.uncompressed; body = w }

part_at : (pre body post : List ℕ) (at : ℕ) → length pre ≡ at → part (pre ++ (body ++ post)) at (length body) ≡ body
part_at pre body post at h = ap (take (length body)) (drop_at pre (body ++ post) at h) ∙ take_at body post (length body) refl

read-from : (rs : List Result) (pre post : List ℕ) (at : ℕ) → length pre ≡ at →
    messages_in (pre ++ (bodies (sent_by rs) ++ post)) (answers_from at rs) ≡ sent_by rs
unfolding answers_from messages_in sent_by bodies
read-from [] pre post at h = refl
read-from (sends m ∷ rs) pre post at h =
    let rest : List ℕ = bodies (sent_by rs) ++ post in
    let e : bodies (sent_by (sends m ∷ rs)) ++ post ≡ m.body ++ rest = append_assoc m.body (bodies (sent_by rs)) post in
    ap₂ ◌∷◌
    (ap (λ (w : List ℕ). with-body m (part (pre ++ w) at (length m.body))) e
    ∙ ap (λ (w : List ℕ). with-body m w) (part_at pre m.body rest at h))
    (ap (λ (w : List ℕ). messages_in (pre ++ w) (answers_from (at + length m.body) rs)) e
    ∙ (rw (append_assoc pre m.body rest) at (read-from rs (pre ++ m.body) post (at + length m.body) (omega (arith, length-append pre m.body)))))
read-from (raises e ∷ rs) pre post at h = read-from rs pre post (at + 0) (omega arith)
read-from (unhandled t ∷ rs) pre post at h = read-from rs pre post (at + 0) (omega arith)

pub reads_back : (old : List ℕ) (rs : Results) → messages_in (written old rs) (results_of (Ok (outcome_of rs))) ≡ sent_by (in_turn rs)
reads_back old rs = rw (answers-are rs) (read-from (in_turn rs) [] (drop (length (output rs)) old) 0 refl)
