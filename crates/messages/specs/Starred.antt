-- Bodies in hexadecimal with what is read from them, as rows of one table. `proofs/Starred.antt` has the theorem over the rows.
-- Assumes nothing.
use Rattle.std.specs.Prelude.{ℕ, ◌≡◌, List, [], ◌∷◌, Option, Some, None, Result, Ok, Err}
use Rattle.octets.specs.Span.{span}
use Rattle.amf0.specs.Places.{malformed}
use Rattle.amf0.specs.declared.read.Malformed.{Malformed}
use Prim.Native.String.{String}
use Rattle.octets.specs.Compare.{unhex}
use Rattle.messages.specs.Incoming.{decode}
use Rattle.messages.specs.Places.{placed}
use Rattle.messages.specs.Notice.{code_at}
use Rattle.messages.specs.Metadata.{metadata_at}
use Rattle.messages.specs.declared.rtmp_message.PeerBandwidthLimitType.TheVariants as limit
use Rattle.messages.specs.declared.rtmp_message.UserControlEvent.TheVariants as event
use Rattle.messages.specs.declared.rtmp_message.CommandName.TheVariants as name
use Rattle.messages.specs.declared.rtmp_message.Argument.TheVariants as argument
use Rattle.messages.specs.declared.rtmp_message.DataMessage.TheVariants as said
use Rattle.messages.specs.declared.rtmp_message.RtmpMessage.{RtmpMessage}
use Rattle.messages.specs.declared.rtmp_message.RtmpMessage.TheVariants as message
use Rattle.messages.specs.declared.on_status.OnStatus.{OnStatus}
use Rattle.messages.specs.declared.on_status.OnStatus.TheVariants as status

-- a body of a type; an object with the code, and with the width, that it holds
pub data Row : Type 0 where
  body : ℕ → String → Result RtmpMessage Malformed → Row
  code_in : String → Option OnStatus → Row
  width_in : String → Option ℕ → Row

-- what a row says
abbrev pub Says : Row → Type 0
Says (body t h m) = placed (unhex h) (decode t (unhex h)) ≡ m
Says (code_in h k) = code_at (unhex h) (unhex h) ≡ k
Says (width_in h w) = (metadata_at (unhex h) (unhex h)).video_width ≡ w

-- None is starred in document 01: of its two peer sizes a body says no more than the number, and the session judges it.
-- Types stand as the numbers that come, so that the rows also say which type has which number.
abbrev pub rows : List Row
rows =
    body 1 "7fffffff" (Ok (message.SetChunkSize 2147483647))
    ∷ body 1 "80000000" (Ok (message.SetChunkSize 2147483648))
    ∷ body 1 "7fffffff00" (Err malformed)
    ∷ body 1 "7fffff" (Err malformed)
    ∷ body 2 "00000007" (Ok (message.Abort 7))
    ∷ body 3 "ffffffff" (Ok (message.Acknowledgement 4294967295))
    ∷ body 5 "00000004" (Ok (message.WindowAcknowledgement 4))
    ∷ body 6 "0000000100" (Ok (message.SetPeerBandwidth 1 limit.Hard))
    ∷ body 6 "0000000101" (Ok (message.SetPeerBandwidth 1 limit.Soft))
    ∷ body 6 "0000000102" (Ok (message.SetPeerBandwidth 1 limit.Dynamic))
    ∷ body 6 "0000000103" (Err malformed)
    ∷ body 6 "00000001" (Err malformed)
    ∷ body 4 "000700000007" (Ok (message.UserControl (event.PingResponse (record { 0 = 7 }))))
    ∷ body 4 "000300000001000007d0" (Ok (message.UserControl (event.SetBufferLength (record { 0 = 1 }) 2000)))
    ∷ body 4 "000300000001" (Err malformed)
    ∷ body 4 "000500000001" (Err malformed)
    ∷ body 4 "001f00000001" (Err malformed)
    ∷ body 8 "" (Ok message.AudioData)
    ∷ body 9 "00" (Ok message.VideoData)
    ∷ body 22 "00" (Ok message.Unknown)
    ∷ body 20 "02000c63726561746553747265616d00400000000000000005"
    (Ok (message.Amf0Command (record { name = name.Other; name_at = span 3 12; number = 0x4000_0000_0000_0000; object = 24; args = 25; first = None })))
    ∷ body 17 "0002000c63726561746553747265616d00400000000000000005"
    (Ok (message.Amf0Command (record { name = name.Other; name_at = span 4 12; number = 0x4000_0000_0000_0000; object = 25; args = 26; first = None })))
    ∷ body 17 "00" (Err malformed)
    ∷ body 17 "000002000c63726561746553747265616d00400000000000000005" (Err malformed)
    ∷ body 20 "0002000c63726561746553747265616d00400000000000000005" (Err malformed)
    ∷ body 20 "" (Err malformed)
    ∷ body 20 "0200075f726573756c74003ff000000000000005003ff0000000000000"
    (Ok (message.Amf0Command (record { name = name.Result; name_at = span 3 7; number = 0x3ff0_0000_0000_0000; object = 19; args = 20; first = Some (argument.Number 0x3ff0_0000_0000_0000) })))
    ∷ body 20 "0200075f726573756c74003ff000000000000005003ff000000000000004" (Err malformed)
    ∷ body 20 "0200075f726573756c74003ff0000000000000" (Err malformed)
    ∷ body 20 "0200065f6572726f72003ff0000000000000050505"
    (Ok (message.Amf0Command (record { name = name.Error; name_at = span 3 6; number = 0x3ff0_0000_0000_0000; object = 18; args = 19; first = Some argument.Other })))
    ∷ body 20 "0200086f6e53746174757300000000000000000005030004636f646502000178000009"
    (Ok (message.Amf0Command (record { name = name.OnStatus; name_at = span 3 8; number = 0; object = 20; args = 21; first = Some argument.Object })))
    ∷ body 18 "" (Ok (message.Amf0Data said.Other))
    ∷ body 18 "02000a6f6e4d657461446174610300057769647468003ff0000000000000000009" (Ok (message.Amf0Data (said.OnMetaData 13)))
    ∷ body 15 "02000a6f6e4d6574614461746108ffffffff00057769647468003ff0000000000000000009" (Ok (message.Amf0Data (said.OnMetaData 13)))
    ∷ body 18 "02000a6f6e4d6574614461746105" (Ok (message.Amf0Data said.Other))
    ∷ body 18 "02000a6f6e4d65746144617461" (Ok (message.Amf0Data said.Other))
    ∷ body 18 "02000a6f6e4d657461446174620300057769647468003ff0000000000000000009" (Ok (message.Amf0Data said.Other))
    ∷ body 18 "0002000a6f6e4d65746144617461" (Err malformed)
    ∷ code_in "030004636f64650200144e657453747265616d2e506c61792e5374617274000009" (Some status.PlayStart)
    ∷ code_in "030004636f64650200174e657453747265616d2e5075626c6973682e537461727400017805000009" (Some status.PublishStart)
    ∷ code_in "030004636f64650200144e657453747265616d2e506c61792e53746172740004636f646505000009" None
    ∷ code_in "030004636f6465050004636f64650200026162000009" (Some (status.Other (span 17 2)))
    ∷ code_in "03000178030004636f64650200026162000009000009" None
    ∷ code_in "030004636f6465020000000009" (Some (status.Other (span 10 0)))
    ∷ code_in "08ffffffff0004636f64650200026162000009" (Some (status.Other (span 14 2)))
    ∷ code_in "05" None
    ∷ width_in "0300057769647468004014000000000000000009" (Some 5)
    ∷ width_in "03000577696474680040140000000000000005776964746802000178000009" None
    ∷ width_in "03000577696474680200017800057769647468004014000000000000000009" (Some 5)
    ∷ width_in "030006686569676874004014000000000000000009" None
    ∷ width_in "0300057769647468003ffe666666666666000009" (Some 1)
    ∷ []
