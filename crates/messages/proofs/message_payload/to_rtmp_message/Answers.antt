-- `messages::message_payload::to_rtmp_message` meets its contract: the definition goes by the same types.
-- Assumes nothing.
use Rattle.std.proofs.Common.{ap, ◌∙◌}
use Rattle.amf0.proofs.PlaceLaws.{err-is}
use Rattle.messages.specs.Incoming.{decode, set_chunk_size, abort, acknowledgement, window_size}
use Rattle.messages.specs.Places.{placed}
use Rattle.messages.proofs.CommandLaws.{past-zero}
use Rattle.messages.proofs.WholeLaws.{word-is, word_short}
use Rattle.messages.proofs.message_payload.to_rtmp_message.Goals as goal

pub returns-in_err-last_word-in-1 : goal.returns-in_err-last_word-in-1
unfolding decode placed
returns-in_err-last_word-in-1 c =
    err-is _ c.from_residual.ensures.0 ∙ rw c.in-1.is (ap (placed c.args.body.now) (word_short set_chunk_size c.args.body.now c.in_err-last_word-in-1.ensures))

pub returns-in_ok-last_word-in-1 : goal.returns-in_ok-last_word-in-1
unfolding decode placed
returns-in_ok-last_word-in-1 c = rw c.in-1.is (ap (placed c.args.body.now) (word-is set_chunk_size c.args.body.now c.in_ok-last_word-in-1.ensures))

pub returns-in_err-last_word-in-2 : goal.returns-in_err-last_word-in-2
unfolding decode placed
returns-in_err-last_word-in-2 c =
    err-is _ c.from_residual-in_err-last_word-in-2.ensures.0 ∙ rw c.in-2.is (ap (placed c.args.body.now) (word_short abort c.args.body.now c.in_err-last_word-in-2.ensures))

pub returns-in_ok-last_word-in-2 : goal.returns-in_ok-last_word-in-2
unfolding decode placed
returns-in_ok-last_word-in-2 c = rw c.in-2.is (ap (placed c.args.body.now) (word-is abort c.args.body.now c.in_ok-last_word-in-2.ensures))

pub returns-in_err-last_word-in-3 : goal.returns-in_err-last_word-in-3
unfolding decode placed
returns-in_err-last_word-in-3 c =
    err-is _ c.from_residual-in_err-last_word-in-3.ensures.0 ∙ rw c.in-3.is (ap (placed c.args.body.now) (word_short acknowledgement c.args.body.now c.in_err-last_word-in-3.ensures))

pub returns-in_ok-last_word-in-3 : goal.returns-in_ok-last_word-in-3
unfolding decode placed
returns-in_ok-last_word-in-3 c = rw c.in-3.is (ap (placed c.args.body.now) (word-is acknowledgement c.args.body.now c.in_ok-last_word-in-3.ensures))

pub returns-in_err-last_word-in-5 : goal.returns-in_err-last_word-in-5
unfolding decode placed
returns-in_err-last_word-in-5 c =
    err-is _ c.from_residual-in_err-last_word-in-5.ensures.0 ∙ rw c.in-5.is (ap (placed c.args.body.now) (word_short window_size c.args.body.now c.in_err-last_word-in-5.ensures))

pub returns-in_ok-last_word-in-5 : goal.returns-in_ok-last_word-in-5
unfolding decode placed
returns-in_ok-last_word-in-5 c = rw c.in-5.is (ap (placed c.args.body.now) (word-is window_size c.args.body.now c.in_ok-last_word-in-5.ensures))

-- the check finds it alone, but not in a must-fail edit with faults in the functions that are called
pub returns-in-8 : goal.returns-in-8
unfolding decode placed
returns-in-8 c = rw c.in-8.is

pub returns-in-17 : goal.returns-in-17
unfolding decode
returns-in-17 c =
    let s = c.args.body.now in
    rw (c.in-17.is, ← past-zero s, ← c.leading_zero.ensures) c.amf0_command.ensures
