-- `messages::user_control::user_control` meets its contract.
-- Assumes nothing.
use Rattle.std.proofs.Common.{◌≡◌, ℕ, drop, refl, sym, ap, ◌∙◌}
use Rattle.octets.specs.BigEndian.{uint}
use Rattle.octets.specs.Parse.{got, and_then}
use Rattle.amf0.proofs.PlaceLaws.{err-is, uint-read, or-malformed}
use Rattle.messages.specs.Incoming.{user_control, whole, event_of, user_control_of}
use Rattle.messages.specs.Places.{placed}
use Rattle.messages.specs.declared.rtmp_message.UserControlEvent.{UserControlEvent}
use Rattle.messages.specs.declared.rtmp_message.UserControlEvent.TheVariants.{StreamBegin, StreamEof, StreamDry, StreamIsRecorded, PingRequest, PingResponse}
use Rattle.messages.proofs.EventLaws.{control-is, event-is, no-event}
use Rattle.messages.proofs.user_control.user_control.Goals as goal
use Rattle.messages.proofs.user_control.user_control.Goals.{In_ok-event, In_ok-n}

-- the event that was read
event-read : (c : In_ok-event) → uint 2 c.args.body.now ≡ got c.in_ok-event.event (drop 2 c.args.body.now)
event-read c = (uint-read 2 c.args.body.now 0 _ (c.in_ok-event.ensures.value ∙ or-malformed _ _ c.read_be16.ensures)).is

pub returns-then-event-eq3 : goal.returns-then-event-eq3
unfolding event_of
returns-then-event-eq3 c =
    let s = c.args.body.now in
    c.set_buffer_length.ensures ∙ ap (placed s) (control-is s 3 (event-read (goal.at.returns-then-event-eq3 c).In_ok-event) c.if-event-eq3.true)

pub returns-in_err-n : goal.returns-in_err-n
unfolding placed
returns-in_err-n c =
    let s = c.args.body.now in
    err-is _ c.from_residual-in_err-n.ensures.0
    ∙ ap (placed s) (no-event (drop 2 s) c.in_err-n.ensures _ c.if-event-eq3.false ∙ control-is s _ (event-read (goal.at.returns-in_err-n c).In_ok-event) refl)

-- what is said after the event k, whose one number g takes
told : (c : In_ok-n) (g : ℕ → UserControlEvent) (k : ℕ) → let s = c.args.body.now in
    event_of k (drop 2 s) ≡ and_then (uint 4 (drop 2 s)) (λ n r. got (g n) r) → c.in_ok-event.event ≡ k
    → placed s (user_control (g c.in_ok-n.n)) ≡ placed s (user_control_of s)
told c g k h e =
    let s = c.args.body.now in
    ap (placed s)
    (event-is (drop 2 s) g c.in_ok-n.ensures
    ∙ ap (whole user_control) (sym h)
    ∙ control-is s k (event-read (goal.at.In_ok-n c).In_ok-event) e)

pub returns-in-0 : goal.returns-in-0
unfolding placed event_of
returns-in-0 c = told (goal.at.returns-in-0 c).In_ok-n (λ n. StreamBegin (record { 0 = n })) 0 refl c.in-0.is

pub returns-in-1 : goal.returns-in-1
unfolding placed event_of
returns-in-1 c = told (goal.at.returns-in-1 c).In_ok-n (λ n. StreamEof (record { 0 = n })) 1 refl c.in-1.is

pub returns-in-2 : goal.returns-in-2
unfolding placed event_of
returns-in-2 c = told (goal.at.returns-in-2 c).In_ok-n (λ n. StreamDry (record { 0 = n })) 2 refl c.in-2.is

pub returns-in-4 : goal.returns-in-4
unfolding placed event_of
returns-in-4 c = told (goal.at.returns-in-4 c).In_ok-n (λ n. StreamIsRecorded (record { 0 = n })) 4 refl c.in-4.is

pub returns-in-6 : goal.returns-in-6
unfolding placed event_of
returns-in-6 c = told (goal.at.returns-in-6 c).In_ok-n (λ n. PingRequest (record { 0 = n })) 6 refl c.in-6.is

pub returns-in-7 : goal.returns-in-7
unfolding placed event_of
returns-in-7 c = told (goal.at.returns-in-7 c).In_ok-n (λ n. PingResponse (record { 0 = n })) 7 refl c.in-7.is
