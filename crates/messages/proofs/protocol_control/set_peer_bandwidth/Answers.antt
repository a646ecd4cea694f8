-- `messages::protocol_control::set_peer_bandwidth` meets its contract: another length, no limit, or a size and a limit.
-- Assumes nothing.
use Rattle.std.proofs.Common.{arith, ap, ◌∙◌}
use Rattle.octets.proofs.BigEndianLaws.{uint-at}
use Rattle.amf0.proofs.CutLaws.{clash}
use Rattle.amf0.proofs.PlaceLaws.{UintRead, err-is, outcome-none, uint-read, or-malformed}
use Rattle.messages.specs.Places.{placed}
use Rattle.messages.proofs.BandwidthLaws.{not_five, limit_is, no-limit}
use Rattle.messages.proofs.protocol_control.set_peer_bandwidth.Goals as goal
use Rattle.messages.proofs.protocol_control.set_peer_bandwidth.Goals.{In_ok-size}

pub returns-then-body-ne5 : goal.returns-then-body-ne5
unfolding placed
returns-then-body-ne5 c = let s = c.args.body.now in ap (placed s) (not_five s c.if-body-ne5.true)

-- there are 4 bytes
pub returns-in_err-size : goal.returns-in_err-size
returns-in_err-size c =
    let s = c.args.body.now in
    let e = outcome-none _ (c.in_err-size.ensures.value ∙ or-malformed _ _ c.read_be32.ensures) in
    let g = uint-at 4 s 0 (omega arith) in
    clash (cc)

size_is : (c : In_ok-size) → UintRead 4 c.args.body.now 0 c.in_ok-size.size
size_is c = uint-read 4 c.args.body.now 0 _ (c.in_ok-size.ensures.value ∙ or-malformed _ _ c.read_be32.ensures)

pub returns-in_err-limit : goal.returns-in_err-limit
unfolding placed
returns-in_err-limit c =
    let s = c.args.body.now in
    err-is _ c.from_residual-in_err-limit.ensures.0
    ∙ ap (placed s) (no-limit s c.if-body-ne5.false (size_is (goal.at.returns-in_err-limit c).In_ok-size).is c.in_err-limit.ensures)

pub returns : goal.returns
unfolding placed
returns c =
    let s = c.args.body.now in
    ap (placed s) (limit_is s c.if-body-ne5.false (size_is (goal.at.returns c).In_ok-size).is _ c.in_ok-limit.ensures)
