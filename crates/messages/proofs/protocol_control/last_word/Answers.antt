-- `messages::protocol_control::last_word` meets its contract: 4 bytes are left, or not.
-- Assumes nothing.
use Rattle.std.proofs.Common.{◌≡◌, arith, length, drop, length-drop, take_all, eq-eqb, ◌∙◌}
use Rattle.octets.proofs.BigEndianLaws.{uint-at}
use Rattle.amf0.specs.Places.{outcome}
use Rattle.amf0.proofs.PlaceLaws.{or-malformed}
use Rattle.messages.proofs.protocol_control.last_word.Goals as goal

pub returns : goal.returns
unfolding outcome
returns c =
    let a = c.args in
    let l : length (drop a.at a.body.now) ≡ 4 = omega (arith, length-drop a.at a.body.now) in
    c.ok_or.ensures.value ∙ or-malformed _ _ c.read_be32.ensures
    ∙ rw (eq-eqb _ _ l, uint-at 4 a.body.now a.at (omega arith), take_all 4 (drop a.at a.body.now) (omega arith))
