-- `amf0::read::byte` meets its contract: past the end, or the byte.
-- Assumes nothing.
use Rattle.std.proofs.Common.{◌≡◌, ◌≤◌, ◌<◌, ℕ, List, length, drop, arith, sym, ap, ltb-true, ltb-false, Bor, ◌∙◌}
use Rattle.std.specs.Prelude.{Option, Some, None, Ok}
use Rattle.std.proofs.lemmas.Grind.{get_or_default_zero}
use Rattle.std.specs.Option.{ok_or, option_copied}
use Rattle.std.specs.Slice.{IsItemAt}
use Rattle.octets.specs.BigEndian.{uint}
use Rattle.octets.proofs.BigEndianLaws.{uint-short}
use Rattle.amf0.specs.Places.{outcome, malformed}
use Rattle.amf0.proofs.PlaceLaws.{byte_at}
use Rattle.amf0.proofs.read.byte.Goals as goal

got-byte : (s : List ℕ) (at : ℕ) (o : Option (Bor ℕ)) → IsItemAt s at o → ok_or (option_copied o) malformed ≡ outcome (uint 1 (drop at s))
unfolding outcome
got-byte s at None h = let l : length s ≤ at = ltb-false at (length s) (sym h.0) in rw (uint-short 1 s at (omega arith))
got-byte s at (Some x) h = let l : at < length s = ltb-true at (length s) (sym h.0) in rw (byte_at s at l) (ap Ok (h.1 ∙ get_or_default_zero s at x.now l))

pub returns : goal.returns
returns c = c.ok_or.ensures.value ∙ rw c.copied.ensures (got-byte c.args.s.now c.args.at c.get.result c.get.ensures.lookup)
