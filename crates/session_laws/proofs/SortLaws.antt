-- Messages by sorts, so that the conditions on messages exclude one another by number.
-- Assumes nothing.
use Prim.Native.Nat.{ℕ, ◌≤◌}
use native.Mathlib.Omega.{arith}
use mathlib.Core.Path.{◌≡◌, ap}
use mathlib.Core.List.{List}
use Rattle.octets.specs.Compare.{ascii, same}
use Rattle.messages.specs.Incoming.{Incoming, malformed, set_chunk_size, abort, acknowledgement, window_size, peer_bandwidth, user_control, command, values, audio, video, unknown, Command, decode}
use Rattle.messages.specs.Places.{name_of}
use Rattle.messages.specs.declared.rtmp_message.CommandName.{CommandName}
use Rattle.messages.specs.declared.rtmp_message.CommandName.TheVariants as name
use Rattle.messages.specs.declared.rtmp_message.UserControlEvent.{UserControlEvent}
use Rattle.messages.specs.declared.rtmp_message.UserControlEvent.TheVariants.{StreamBegin, StreamEof, StreamDry, SetBufferLength, StreamIsRecorded, PingRequest, PingResponse}
use Rattle.session.specs.declared.record.ClientSession.{ClientSession}
use Rattle.session_laws.specs.Conditions.{Named, WrongStage, play_start, publish_start, sound_in, picture_in, NotCreated, error, NoStreamNumber, result, BadNotice, notice, PeerChunk, large}

abbrev pub name_sort : CommandName → ℕ
name_sort name.Result = 2
name_sort name.Error = 3
name_sort name.OnStatus = 7
name_sort name.Other = 5

abbrev pub event_sort : UserControlEvent → ℕ
event_sort (PingRequest t) = 1
event_sort (PingResponse t) = 5
event_sort (StreamBegin x) = 5
event_sort (StreamEof x) = 5
event_sort (StreamDry x) = 5
event_sort (SetBufferLength x n) = 5
event_sort (StreamIsRecorded x) = 5

-- 1: a ping, 2 and 3: replies, 4: a chunk size, 7: a notice, 8: pictures and sound, 5: others
abbrev pub sort : Incoming → ℕ
sort malformed = 0
sort (user_control e) = event_sort e
sort (command c) = name_sort (name_of c.name)
sort (set_chunk_size n) = 4
sort audio = 8
sort video = 8
sort (abort n) = 5
sort (acknowledgement n) = 5
sort (window_size n) = 5
sort (peer_bandwidth n l) = 5
sort (values d) = 5
sort unknown = 5

module _ {k : ℕ} {b : List ℕ} where
  named-sort : {t : List ℕ} {c : Command} → Named k b t c → sort (decode k b) ≡ name_sort (name_of t)
  named-sort n = rw (n.says, n.named)

  pub result-sort : {c : Command} → Named k b (ascii "_result") c → sort (decode k b) ≡ 2
  unfolding name_of same
  result-sort n = named-sort n

  pub error_sort : {c : Command} → Named k b (ascii "_error") c → sort (decode k b) ≡ 3
  unfolding name_of same
  error_sort n = named-sort n

  pub notice-sort : {c : Command} → Named k b (ascii "onStatus") c → sort (decode k b) ≡ 7
  unfolding name_of same
  notice-sort n = named-sort n

  pub wrong_sort : {s : ClientSession} → WrongStage s k b → 7 ≤ sort (decode k b)
  wrong_sort (play_start c n h g) = omega (arith, notice-sort n)
  wrong_sort (publish_start c n h g) = omega (arith, notice-sort n)
  wrong_sort (sound_in e g h) = omega (arith, ap sort e)
  wrong_sort (picture_in e g h) = omega (arith, ap sort e)

  pub uncreated_sort : {s : ClientSession} → NotCreated s k b → sort (decode k b) ≡ 3
  uncreated_sort (error c q p n o) = error_sort n

  pub unnumbered_sort : {s : ClientSession} → NoStreamNumber s k b → sort (decode k b) ≡ 2
  unnumbered_sort (result c q p n o m) = result-sort n

  pub bad-sort : BadNotice k b → sort (decode k b) ≡ 7
  bad-sort (notice c n h) = notice-sort n

  pub peer_sort : PeerChunk k b → sort (decode k b) ≡ 4
  peer_sort (large n e l) = ap sort e
