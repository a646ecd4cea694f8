-- `messages::stream_metadata::field_index` meets its contract: none of the names, or the index of the first that it is.
-- Assumes nothing.
use borrow.Author.Tests.{tests}
use Rattle.std.proofs.Common.{rules, ◌≡◌, Bool, Bor, List, [], ◌∷◌, ℕ, map, position, refl, ap, ◌∙◌}
use Rattle.std.specs.List.{position_or_len}
use Rattle.std.proofs.lemmas.List.{length-map}
use Rattle.std.proofs.lemmas.Iterator.{YieldsList-from_slice}
use Rattle.std.proofs.lemmas.Iterator.Search.{position_from_yields_List}
use Rattle.octets.specs.Compare.{same}
use Rattle.messages.specs.Metadata.{field_names}
use Rattle.messages.proofs.stream_metadata.field_index.Goals as goal

-- among names that are lent, the first that passes stands where it stands among the names themselves
module _ (test : List ℕ → Bool) where
  lent_place : (names : List (Bor (List ℕ))) → position_or_len (λ m. test m.now) names ≡ position_or_len test (map (λ m. m.now) names)
  lent_place [] = refl
  lent_place (m ∷ ms) = rw (lent_place ms)

  lent_position : (names : List (Bor (List ℕ))) → position (λ m. test m.now) names ≡ position test (map (λ m. m.now) names)
  lent_position names = rw (lent_place names, length-map names (λ m. m.now))

pub returns : goal.returns
returns c =
    let s = c.args.name.now in
    let names = c.iter.result.rest.now in
    let e : map (λ m. m.now) names ≡ field_names = search rules in
    position_from_yields_List (λ (m : Bor (List ℕ)). same s m.now) _ _ c.position.result c.position.ensures.ran (YieldsList-from_slice names (search rules)) (λ x b q k. search (rules, tests))
    ∙ lent_position (same s) names
    ∙ ap (position (same s)) e
