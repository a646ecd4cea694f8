-- Control bodies that were written are read as what they were written from.
-- Assumes nothing.
use Prim.Native.Nat.{ℕ, ◌^◌, ◌<◌}
use native.Mathlib.Omega.{arith}
use mathlib.Core.Path.{◌≡◌, refl, sym, ap, ◌∙◌}
use mathlib.Core.List.{[], append-nil}
use Rattle.octets.specs.Parse.{got}
use Rattle.octets.specs.BigEndian.{digits, uint}
use Rattle.octets.proofs.BigEndianLaws.{uint-digits}
use Rattle.messages.specs.Incoming.{set_chunk_size, acknowledgement, window_size, user_control, event_of, user_control_of, decode}
use Rattle.messages.specs.Numbers.{event_number}
use Rattle.messages.specs.declared.rtmp_message.UserControlEvent.{UserControlEvent}
use Rattle.messages.specs.declared.rtmp_message.UserControlEvent.TheVariants.{StreamBegin, StreamEof, StreamDry, SetBufferLength, StreamIsRecorded, PingRequest, PingResponse}
use Rattle.bodies.specs.Bodies.{event_values, control_body, word_body}

-- its numbers fit 4 bytes
abbrev pub EventFits : UserControlEvent → Type 0
EventFits (StreamBegin x) = x.0 < 2 ^ 32
EventFits (StreamEof x) = x.0 < 2 ^ 32
EventFits (StreamDry x) = x.0 < 2 ^ 32
EventFits (SetBufferLength x n) = (x.0 < 2 ^ 32) × (n < 2 ^ 32)
EventFits (StreamIsRecorded x) = x.0 < 2 ^ 32
EventFits (PingRequest t) = t.0 < 2 ^ 32
EventFits (PingResponse t) = t.0 < 2 ^ 32

-- a number and nothing after it
word : (n : ℕ) → n < 2 ^ 32 → uint 4 (digits 4 n) ≡ got n []
word n h = ap (uint 4) (sym (append-nil (digits 4 n))) ∙ uint-digits 4 n [] h

-- an event of one number
one : (e : UserControlEvent) (n : ℕ) → event_values e ≡ digits 4 n → n < 2 ^ 32 → uint 4 (event_values e) ≡ got n []
one e n v h = ap (uint 4) v ∙ word n h

event-round : (e : UserControlEvent) → EventFits e → event_of (event_number e) (event_values e) ≡ got e []
unfolding event_of
event-round (StreamBegin x) h = rw (one (StreamBegin x) x.0 refl h)
event-round (StreamEof x) h = rw (one (StreamEof x) x.0 refl h)
event-round (StreamDry x) h = rw (one (StreamDry x) x.0 refl h)
event-round (SetBufferLength x n) h = rw (uint-digits 4 x.0 (digits 4 n) h.0, word n h.1)
event-round (StreamIsRecorded x) h = rw (one (StreamIsRecorded x) x.0 refl h)
event-round (PingRequest t) h = rw (one (PingRequest t) t.0 refl h)
event-round (PingResponse t) h = rw (one (PingResponse t) t.0 refl h)

number_small : (e : UserControlEvent) → event_number e < 2 ^ 16
number_small (StreamBegin x) = omega arith
number_small (StreamEof x) = omega arith
number_small (StreamDry x) = omega arith
number_small (SetBufferLength x n) = omega arith
number_small (StreamIsRecorded x) = omega arith
number_small (PingRequest t) = omega arith
number_small (PingResponse t) = omega arith

pub control_round : (e : UserControlEvent) → EventFits e → decode 4 (control_body e) ≡ user_control e
unfolding decode user_control_of control_body
control_round e h = rw (uint-digits 2 (event_number e) (event_values e) (number_small e), event-round e h)

-- types 1, 3 and 5
module _ (n : ℕ) (h : n < 2 ^ 32) where
  pub chunk-size-round : decode 1 (word_body n) ≡ set_chunk_size n
  unfolding decode
  chunk-size-round = rw (word n h)

  pub acknowledgement-round : decode 3 (word_body n) ≡ acknowledgement n
  unfolding decode
  acknowledgement-round = rw (word n h)

  pub window-round : decode 5 (word_body n) ≡ window_size n
  unfolding decode
  window-round = rw (word n h)
