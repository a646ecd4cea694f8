-- `messages::user_control::set_buffer_length` meets its contract: two numbers of 4 bytes, the second of which takes every byte that is left.
-- Assumes nothing.
use Rattle.std.proofs.Common.{◌≡◌, ℕ, drop, ap, ◌∙◌}
use Rattle.octets.specs.BigEndian.{uint}
use Rattle.amf0.proofs.PlaceLaws.{err-is, outcome-none, uint-read, or-malformed}
use Rattle.messages.specs.Incoming.{Incoming, user_control, whole, buffer_length}
use Rattle.messages.specs.Places.{placed}
use Rattle.messages.specs.declared.rtmp_message.UserControlEvent.TheVariants.{SetBufferLength}
use Rattle.messages.proofs.WholeLaws.{whole-then, word-is, word_short}
use Rattle.messages.proofs.user_control.set_buffer_length.Goals as goal
use Rattle.messages.proofs.user_control.set_buffer_length.Goals.{In_ok-ok_or}

pub returns-in_err-ok_or : goal.returns-in_err-ok_or
unfolding placed
returns-in_err-ok_or c =
    let s = c.args.body.now in
    err-is _ c.from_residual.ensures.0 ∙ rw (outcome-none (uint 4 (drop 2 s)) (c.in_err-ok_or.ensures.value ∙ or-malformed _ _ c.read_be32.ensures))

abbrev length_of : ℕ → ℕ → Incoming
length_of n l = user_control (SetBufferLength (record { 0 = n }) l)

-- from where the stream is bound on
read : (c : In_ok-ok_or) → let s = c.args.body.now in
    whole user_control (buffer_length (drop 2 s)) ≡ whole (length_of c.in_ok-ok_or.field-0) (uint 4 (drop 6 s))
read c =
    let s = c.args.body.now in
    rw (uint-read 4 s 2 _ (c.in_ok-ok_or.ensures.value ∙ or-malformed _ _ c.read_be32.ensures)).is
    (whole-then user_control (λ l. SetBufferLength (record { 0 = c.in_ok-ok_or.field-0 }) l) (uint 4 (drop 6 s)))

pub returns-in_err-length : goal.returns-in_err-length
unfolding placed
returns-in_err-length c =
    let s = c.args.body.now in
    let b = (goal.at.returns-in_err-length c).In_ok-ok_or in
    err-is _ c.from_residual-in_err-length.ensures.0
    ∙ rw (read b) (ap (placed s) (word_short (length_of b.in_ok-ok_or.field-0) (drop 6 s) c.in_err-length.ensures))

pub returns : goal.returns
unfolding placed
returns c =
    let s = c.args.body.now in
    let b = (goal.at.returns c).In_ok-ok_or in
    rw (read b) (ap (placed s) (word-is (length_of b.in_ok-ok_or.field-0) (drop 6 s) c.in_ok-length.ensures))
