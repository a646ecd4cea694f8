-- Whole runs of a session, as rows of one table: an opening, then calls in turn, each with its whole outcome and the lent output as it leaves it,
-- byte for byte, and the record at the end. `proofs/Runs.antt` has the theorem: each run goes so.
-- Assumes nothing.
use Rattle.std.specs.Prelude.{ℕ, Bool, true, false, List, [], ◌∷◌, ◌++◌, map, replicate, from_bits, Result, Ok, Err, Some, None}
use Prim.Native.String.{String}
use Rattle.std.specs.Float.{binary32}
use Rattle.octets.specs.Compare.{ascii, unhex}
use Rattle.messages.specs.declared.ids.RtmpTimestamp.{RtmpTimestamp}
use Rattle.messages.specs.declared.publish_request_type.PublishRequestType.TheVariants.{Live, Record, Append}
use Rattle.messages.specs.declared.stream_metadata.StreamMetadata.{StreamMetadata}
use Rattle.bodies.specs.Starred.{some_fields}
use Rattle.requests.specs.Texts.{stored}
use Rattle.requests.specs.Places.{empty_place}
use Rattle.requests.specs.declared.outstanding_transaction.OutstandingTransaction.TheVariants.{ConnectionRequested}
use Rattle.requests.specs.declared.place.Place.{Place}
use Rattle.requests.specs.declared.text.Text.{Text}
use Rattle.session.specs.Record.{default_config, fresh, open_of, with_progress, with_requests, with_link}
use Rattle.session.specs.Calls.{Call, connect, play, publish, stop_playback, stop_publishing, ping, picture, sound, metadata, bytes, message}
use Rattle.session.specs.Step.{step}
use Rattle.session.specs.Comes.{packet_of}
use Rattle.session.specs.declared.errors.ClientSessionError.{ClientSessionError}
use Rattle.session.specs.declared.config.ClientSessionConfig.{ClientSessionConfig}
use Rattle.session.specs.declared.errors.ClientSessionError.TheVariants.{CantConnectWhileAlreadyConnected, SessionInInvalidState, NoKnownActiveStreamIdWhenRequired, CreateStreamFailed, CreateStreamResponseHadNoStreamNumber, InvalidOnStatusArguments, InvalidMaxChunkSize, MalformedBody, Length, EightOpen, Spent, Space, NotASession}
use Rattle.session.specs.declared.events.ClientSessionEvent.{ClientSessionEvent}
use Rattle.session.specs.declared.events.ClientSessionEvent.TheVariants.{ConnectionRequestRejected, PlaybackRequestAccepted, PublishRequestAccepted, StreamMetadataReceived, VideoDataReceived, AudioDataReceived, UnhandleableAmf0Command, UnknownTransactionResultReceived, UnhandleableOnStatusCode, AcknowledgementReceived, PingResponseReceived}
use Rattle.session.specs.declared.record.Called.{Called}
use Rattle.session.specs.declared.record.ClientSession.{ClientSession}
use Rattle.session.specs.declared.record.Link.{Link}
use Rattle.session.specs.declared.record.Progress.{Progress}
use Rattle.session.specs.declared.result.ClientSessionResult.TheVariants.{OutboundResponse, RaisedEvent, UnhandleableMessageReceived}
use Rattle.session.specs.declared.result.Outcome.{Outcome}
use Rattle.session.specs.declared.result.Outcome.TheVariants.{Nothing, One, Two, Accepted, Pinged}
use Rattle.session.specs.declared.state.ClientState.{ClientState}
use Rattle.session.specs.declared.state.ClientState.TheVariants.{Disconnected, Connected, PublishRequested, Publishing}
use Rattle.octets.specs.Span.{span}

-- a call at that clock, lent an output of so many bytes ff; its outcome, and the output as it leaves it, in hexadecimal
pub data Line : Type 0 where
  line : (clock : ℕ) (call : Call) (space : ℕ) (outcome : Result Outcome ClientSessionError) (left : String) → Line

-- what the run starts from and the outcome of that, and then the calls; at the end the stage, the active stream and the link
pub data Run : Type 0 where
  run : (start : Called) (outcome : Result Outcome ClientSessionError) (lines : List Line) (progress : Progress) (link : Link) → Run

-- what a run shows: an outcome with the output, for each call; and what it ends with
pub data Seen : Type 0 where
  answered : Result Outcome ClientSessionError → List ℕ → Seen
  ended : Progress → Link → Seen

-- each call is made on the session that the one before it handed back
unfoldable pub played : ClientSession → List Line → List Seen
played s [] = ended s.progress s.link ∷ []
played s (line clock call space o left ∷ ls) =
    let t = step s (record { 0 = clock }) call (replicate space 255) in
    answered t.outcome t.output ∷ played t.session ls

abbrev pub stated : List Line → Seen → List Seen
stated [] end = end ∷ []
stated (line clock call space o left ∷ ls) end = answered o (unhex left) ∷ stated ls end

abbrev pub shown_by : Run → List Seen
shown_by (run start o ls g l) = answered start.outcome [] ∷ played start.session ls

abbrev pub stated_by : Run → List Seen
stated_by (run start o ls g l) = answered o [] ∷ stated ls (ended g l)

-- ---- words for the rows

abbrev at : ℕ → RtmpTimestamp
at t = record { 0 = t }

-- a message of type k at time t on stream x, droppable or not, whose body is the first n bytes of the output
abbrev sent : ℕ → ℕ → ℕ → Bool → ℕ → Result Outcome ClientSessionError
sent k t x d n = Ok (One (OutboundResponse (packet_of k (at t) (record { 0 = x }) d n)))

abbrev raised : ClientSessionEvent → Result Outcome ClientSessionError
raised e = Ok (One (RaisedEvent e))

-- a window size, event 0, a chunk size at time 0 with the uncompressed flag
abbrev accepted : ℕ → Result Outcome ClientSessionError
accepted t =
    Ok (Accepted
    (packet_of 5 (at t) (record { 0 = 0 }) false 4)
    (record { type_id = 1; time = at 0; stream = record { 0 = 0 }; droppable = false; uncompressed = true; start = 4; len = 4 }))

-- SetBufferLength on stream 0 and then `play`, n bytes long, on stream x
abbrev playing : ℕ → ℕ → ℕ → Result Outcome ClientSessionError
playing t x n =
    Ok (Two
    (packet_of 4 (at t) (record { 0 = 0 }) false 10)
    (record { type_id = 20; time = at t; stream = record { 0 = x }; droppable = false; uncompressed = false; start = 10; len = n }))

-- a `_result` of type 20 that no open request waits for, by its Number's pattern
abbrev unknown : ℕ → Result Outcome ClientSessionError
unknown n = raised (UnknownTransactionResultReceived n 19 20)

-- a message of type k that came: at time 0 on stream 0; at time t on stream x
abbrev came : ℕ → String → Call
came k body = message k (at 0) (record { 0 = 0 }) (unhex body)

abbrev came_on : ℕ → ℕ → ℕ → String → Call
came_on x t k body = message k (at t) (record { 0 = x }) (unhex body)

-- onStatus with the code `NetStream.Play.Start`, and `NetStream.Publish.Start`
abbrev play_start : Call
play_start = came 20 "0200086f6e53746174757300000000000000000005030004636f64650200144e657453747265616d2e506c61792e5374617274000009"

abbrev publish_start : Call
publish_start = came 20 "0200086f6e53746174757300000000000000000005030004636f64650200174e657453747265616d2e5075626c6973682e5374617274000009"

-- a width of 640 and a frame rate: the double 403df851eb851eb8 is the single 41efc28f, starred
abbrev fields : StreamMetadata
fields =
    record {
      video_width = Some 640;
      video_height = None;
      video_codec_id = None;
      video_frame_rate = Some (from_bits binary32 0x41ef_c28f);
      video_bitrate_kbps = None;
      audio_codec_id = None;
      audio_bitrate_kbps = None;
      audio_sample_rate = None;
      audio_channels = None;
      audio_is_stereo = None;
      encoder = None;
    }

-- settings: a flash version, a chunk size, a tcUrl that is configured
abbrev settings : Text → ℕ → Text → ClientSessionConfig
settings flash chunk url =
    record {
      flash_version = flash;
      playback_buffer_length_ms = 2000;
      window_ack_size = 2500000;
      chunk_size = chunk;
      tc_url = Some url;
    }

-- records that anyone may make: with a next number and places, Publishing without an active stream, with a total that is full
abbrev requesting : ℕ → List Place → Called
requesting n ps = record { outcome = Ok Nothing; session = with_requests (fresh default_config) (record { next = n; places = ps }) }

abbrev no_stream : Called
no_stream = record { outcome = Ok Nothing; session = with_progress (fresh default_config) Publishing None }

abbrev full : Called
full =
    record {
      outcome = Ok Nothing;
      session = with_link (fresh default_config) (record { chunk = 128; window = None; pending = 0; total = 18446744073709551615 });
    }

-- a connect that is open under that number
abbrev asked : ℕ → Place
asked n = record { request = Some (record { 0 = n }, ConnectionRequested); text = stored [] }

-- at the end: a stage, with the active stream x or with none; a link as opening gives it
abbrev without : ClientState → Progress
without g = record { state = g; active = None }

abbrev with : ClientState → ℕ → Progress
with g x = record { state = g; active = Some (record { 0 = x }) }

abbrev quiet : Link
quiet = record { chunk = 128; window = None; pending = 0; total = 0 }

-- ---- the runs

-- from connect to a stop. Starred: a stop at Connected. Refusals 8 and 12 keep the request open
abbrev pub publishing : List Line
publishing =
    line 5 (connect (ascii "app")) 88 (sent 20 5 0 false 86)
    "020007636f6e6e656374003ff00000000000000300036170700200036170700008666c61736856657202000e57494e2032332c302c302c323037000e6f626a656374456e636f64696e67000000000000000000000009ffff"
    ∷ line 6 (came 20 "0200075f726573756c74003ff0000000000000050504") 7 (Err MalformedBody) "ffffffffffffff"
    ∷ line 6 (came 20 "0200075f726573756c74003ff00000000000000505") 7 (Err Space) "ffffffffffffff"
    ∷ line 6 (came 20 "0200075f726573756c74003ff00000000000000505") 9 (accepted 6) "002625a000001000ff"
    ∷ line 7 (connect (255 ∷ [])) 2 (Err CantConnectWhileAlreadyConnected) "ffff"
    ∷ line 8 (publish (ascii "key") Live) 24 (Err Space) "ffffffffffffffffffffffffffffffffffffffffffffffff"
    ∷ line 9 (publish (ascii "key") Live) 25 (sent 20 9 0 false 25) "02000c63726561746553747265616d00400000000000000005"
    ∷ line 10 (came 20 "0200075f726573756c7400400000000000000005004018000000000000") 34 (sent 20 10 6 false 33)
    "0200077075626c697368000000000000000000050200036b65790200046c697665ff"
    ∷ line 11 (picture (1 ∷ []) (at 30) false) 4 (Err (SessionInInvalidState PublishRequested)) "ffffffff"
    ∷ line 12 publish_start 1 (raised PublishRequestAccepted) "ff"
    ∷ line 13 (picture (1 ∷ 2 ∷ 3 ∷ []) (at 40) true) 4 (sent 9 40 6 true 3) "010203ff"
    ∷ line 14 (sound (9 ∷ []) (at 41) false) 1 (sent 8 41 6 false 1) "09"
    ∷ line 15 (metadata some_fields (ascii "aCamera")) 94 (sent 18 15 6 false 94)
    "02000d40736574446174614672616d6502000a6f6e4d65746144617461030005776964746800408400000000000000096672616d6572617465007ff8000000000000000673746572656f01010007656e636f64657202000343616d000009"
    ∷ line 16 (came_on 6 42 9 "01") 1 (Err (SessionInInvalidState Publishing)) "ff"
    ∷ line 17 publish_start 0 (Err (SessionInInvalidState Publishing)) ""
    ∷ line 18 stop_playback 0 (Ok Nothing) ""
    ∷ line 19 stop_publishing 33 (Err Space) "ffffffffffffffffffffffffffffffffffffffffffffffffffffffffffffffffff"
    ∷ line 20 stop_publishing 34 (sent 20 20 6 false 34) "02000c64656c65746553747265616d00000000000000000005004018000000000000"
    ∷ line 21 stop_publishing 1 (Ok Nothing) "ff"
    ∷ line 22 (picture (1 ∷ []) (at 43) false) 1 (Err (SessionInInvalidState Connected)) "ff"
    ∷ []

-- Starred: reply 1.9 closes request 1, and a second reply to it is unknown. SetBufferLength and play; a failed grant, one with a null for its number and
-- one with no argument at all close their requests
abbrev pub watching : List Line
watching =
    line 1 (connect []) 83 (sent 20 1 0 false 83)
    "020007636f6e6e656374003ff00000000000000300036170700200000008666c61736856657202000e57494e2032332c302c302c323037000e6f626a656374456e636f64696e67000000000000000000000009"
    ∷ line 2 (play (255 ∷ [])) 1 (Err (SessionInInvalidState Disconnected)) "ff"
    ∷ line 3 (came 20 "0200075f726573756c74003ffe6666666666660505") 8 (accepted 3) "002625a000001000"
    ∷ line 4 (came 20 "0200075f726573756c74003ffe6666666666660505") 0 (unknown 0x3ffe_6666_6666_6666) ""
    ∷ line 5 (play (ascii "key")) 25 (sent 20 5 0 false 25) "02000c63726561746553747265616d00400000000000000005"
    ∷ line 6 (came 20 "0200065f6572726f720040000000000000000505") 0 (Err CreateStreamFailed) ""
    ∷ line 7 (came 20 "0200075f726573756c7400400000000000000005003ff0000000000000") 0 (unknown 0x4000_0000_0000_0000) ""
    ∷ line 8 (play (ascii "key")) 25 (sent 20 8 0 false 25) "02000c63726561746553747265616d00400800000000000005"
    ∷ line 9 (came 20 "0200075f726573756c740040080000000000000505") 0 (Err CreateStreamResponseHadNoStreamNumber) ""
    ∷ line 10 (came 20 "0200075f726573756c740040080000000000000505") 0 (unknown 0x4008_0000_0000_0000) ""
    ∷ line 11 (play (ascii "key")) 25 (sent 20 11 0 false 25) "02000c63726561746553747265616d00401000000000000005"
    ∷ line 12 (came 20 "0200075f726573756c7400401000000000000005") 0 (Err CreateStreamResponseHadNoStreamNumber) ""
    ∷ line 13 (came 20 "0200075f726573756c7400401000000000000005") 0 (unknown 0x4010_0000_0000_0000) ""
    ∷ line 14 (play (ascii "key")) 25 (sent 20 14 0 false 25) "02000c63726561746553747265616d00401400000000000005"
    ∷ line 15 (came 20 "0200075f726573756c7400401400000000000005003ff0000000000000") 33 (playing 15 1 23)
    "000300000001000007d0020004706c6179000000000000000000050200036b6579"
    ∷ line 16 (came_on 1 50 9 "01") 0 (raised (VideoDataReceived (at 50))) ""
    ∷ line 17 play_start 0 (raised PlaybackRequestAccepted) ""
    ∷ line 18 (came_on 1 51 8 "01") 0 (raised (AudioDataReceived (at 51))) ""
    ∷ line 19 (came_on 2 52 9 "01") 0 (Ok Nothing) ""
    ∷ line 20 (came 20 "0200086f6e5374617475730000000000000000000505") 0 (Err InvalidOnStatusArguments) ""
    ∷ line 21 stop_playback 34 (sent 20 21 1 false 34) "02000c64656c65746553747265616d00000000000000000005003ff0000000000000"
    ∷ line 22 stop_playback 0 (Ok Nothing) ""
    ∷ []

-- a second createStream reply while Playing is granted with its own key; a late connect reply gives Connected and keeps the active stream
abbrev pub late : List Line
late =
    line 1 (connect (ascii "a")) 84 (sent 20 1 0 false 84)
    "020007636f6e6e656374003ff0000000000000030003617070020001610008666c61736856657202000e57494e2032332c302c302c323037000e6f626a656374456e636f64696e67000000000000000000000009"
    ∷ line 2 (connect (ascii "b")) 84 (sent 20 2 0 false 84)
    "020007636f6e6e656374004000000000000000030003617070020001620008666c61736856657202000e57494e2032332c302c302c323037000e6f626a656374456e636f64696e67000000000000000000000009"
    ∷ line 3 (came 20 "0200075f726573756c74003ff000000000000005") 8 (accepted 3) "002625a000001000"
    ∷ line 4 (play (ascii "x")) 25 (sent 20 4 0 false 25) "02000c63726561746553747265616d00400800000000000005"
    ∷ line 5 (play (ascii "y")) 25 (sent 20 5 0 false 25) "02000c63726561746553747265616d00401000000000000005"
    ∷ line 6 (came 20 "0200075f726573756c7400400800000000000005004014000000000000") 31 (playing 6 5 21)
    "000300000005000007d0020004706c61790000000000000000000502000178"
    ∷ line 7 play_start 0 (raised PlaybackRequestAccepted) ""
    ∷ line 8 (came 20 "0200075f726573756c740040100000000000000500401c000000000000") 31 (playing 8 7 21)
    "000300000007000007d0020004706c61790000000000000000000502000179"
    ∷ line 9 play_start 0 (raised PlaybackRequestAccepted) ""
    ∷ line 10 (came_on 5 60 9 "01") 0 (Ok Nothing) ""
    ∷ line 11 (came_on 7 61 9 "01") 0 (raised (VideoDataReceived (at 61))) ""
    ∷ line 12 (came 17 "000200075f726573756c7400400000000000000005") 8 (accepted 12) "002625a000001000"
    ∷ line 13 (came_on 7 62 9 "01") 0 (Err (SessionInInvalidState Connected)) ""
    ∷ line 14 (came_on 7 63 18 "02000a6f6e4d65746144617461030005776964746800408400000000000000096672616d657261746500403df851eb851eb8000009") 0 (raised (StreamMetadataReceived fields)) ""
    ∷ line 15 (came_on 5 64 18 "02000a6f6e4d65746144617461030005776964746800408400000000000000096672616d657261746500403df851eb851eb8000009") 0 (Ok Nothing) ""
    ∷ line 16 stop_playback 0 (Ok Nothing) ""
    ∷ []

-- held numbers as streams: a grant of NaN is stream 0, one of -3 too, one of 4294967296 is stream 4294967295
abbrev pub holding : List Line
holding =
    line 1 (connect []) 83 (sent 20 1 0 false 83)
    "020007636f6e6e656374003ff00000000000000300036170700200000008666c61736856657202000e57494e2032332c302c302c323037000e6f626a656374456e636f64696e67000000000000000000000009"
    ∷ line 2 (came 20 "0200075f726573756c74003ff000000000000005") 8 (accepted 2) "002625a000001000"
    ∷ line 3 (publish (ascii "key") Record) 25 (sent 20 3 0 false 25) "02000c63726561746553747265616d00400000000000000005"
    ∷ line 4 (came 20 "0200075f726573756c7400400000000000000005007ff8000000000000") 35 (sent 20 4 0 false 35) "0200077075626c697368000000000000000000050200036b65790200067265636f7264"
    ∷ line 5 stop_publishing 34 (sent 20 5 0 false 34) "02000c64656c65746553747265616d00000000000000000005000000000000000000"
    ∷ line 6 (publish [] Append) 25 (sent 20 6 0 false 25) "02000c63726561746553747265616d00400800000000000005"
    ∷ line 7 (came 20 "0200075f726573756c740040080000000000000500c008000000000000") 32 (sent 20 7 0 false 32) "0200077075626c69736800000000000000000005020000020006617070656e64"
    ∷ line 8 stop_publishing 34 (sent 20 8 0 false 34) "02000c64656c65746553747265616d00000000000000000005000000000000000000"
    ∷ line 9 (publish (replicate 256 97) Live) 25 (Err Length) "ffffffffffffffffffffffffffffffffffffffffffffffffff"
    ∷ line 10 (publish (replicate 255 97) Live) 25 (sent 20 10 0 false 25) "02000c63726561746553747265616d00401000000000000005"
    ∷ line 11 (came 20 "0200075f726573756c74004010000000000000050041f0000000000000") 284 (Err Space) "ffffffffffffffffffffffffffffffffffffffffffffffffffffffffffffffffffffffffffffffffffffffffffffffffffffffffffffffffffffffffffffffffffffffffffffffffffffffffffffffffffffffffffffffffffffffffffffffffffffffffffffffffffffffffffffffffffffffffffffffffffffffffffffffffffffffffffffffffffffffffffffffffffffffffffffffffffffffffffffffffffffffffffffffffffffffffffffffffffffffffffffffffffffffffffffffffffffffffffffffffffffffffffffffffffffffffffffffffffffffffffffffffffffffffffffffffffffffffffffffffffffffffffffffffffffffffffffffffffffffffffffffffffffffffffffffffffffffffffffffffffffffff"
    ∷ line 12 (came 20 "0200075f726573756c74004010000000000000050041f0000000000000") 285 (sent 20 12 4294967295 false 285) "0200077075626c697368000000000000000000050200ff6161616161616161616161616161616161616161616161616161616161616161616161616161616161616161616161616161616161616161616161616161616161616161616161616161616161616161616161616161616161616161616161616161616161616161616161616161616161616161616161616161616161616161616161616161616161616161616161616161616161616161616161616161616161616161616161616161616161616161616161616161616161616161616161616161616161616161616161616161616161616161616161616161616161616161616161616161616161616161616161616161616161616161616161616161610200046c697665"
    ∷ line 13 stop_publishing 34 (sent 20 13 4294967295 false 34) "02000c64656c65746553747265616d000000000000000000050041efffffffe00000"
    ∷ []

-- byte counts. The first three lines are document 01's whole case: a window doesn't apply to the count that brought it. Refusal 12 takes a count
-- back. A lowered window acknowledges with the next count; a sum past 32 bits has reached every window; window 0 acknowledges a count of 0
abbrev pub counting : List Line
counting =
    line 0 (bytes 10) 4 (Ok Nothing) "ffffffff"
    ∷ line 0 (came 5 "00000004") 4 (Ok Nothing) "ffffffff"
    ∷ line 7 (bytes 4) 4 (sent 3 7 0 false 4) "00000004"
    ∷ line 8 (bytes 3) 4 (Ok Nothing) "ffffffff"
    ∷ line 9 (bytes 6) 3 (Err Space) "ffffff"
    ∷ line 10 (bytes 2) 5 (sent 3 10 0 false 4) "00000005ff"
    ∷ line 11 (came 5 "00000064") 0 (Ok Nothing) ""
    ∷ line 12 (bytes 50) 0 (Ok Nothing) ""
    ∷ line 13 (came 5 "00000028") 4 (Ok Nothing) "ffffffff"
    ∷ line 14 (bytes 0) 4 (sent 3 14 0 false 4) "00000032"
    ∷ line 15 (came 5 "ffffffff") 4 (Ok Nothing) "ffffffff"
    ∷ line 16 (bytes 4294967290) 4 (Ok Nothing) "ffffffff"
    ∷ line 17 (bytes 10) 4 (sent 3 17 0 false 4) "00000004"
    ∷ line 18 (came 5 "00000000") 0 (Ok Nothing) ""
    ∷ line 19 (bytes 0) 4 (sent 3 19 0 false 4) "00000000"
    ∷ line 20 (came 5 "00000064") 0 (Ok Nothing) ""
    ∷ line 21 (bytes 7) 0 (Ok Nothing) ""
    ∷ []

-- messages that need no stage. Starred: the peer's chunk sizes. A ping and its response, depth 8 and 9, a rejected connect with its description and without
abbrev pub listening : List Line
listening =
    line 7 ping 7 (Ok (Pinged (packet_of 4 (at 7) (record { 0 = 0 }) false 6) (at 7))) "000600000007ff"
    ∷ line 8 (came 4 "000600000007") 6 (sent 4 8 0 false 6) "000700000007"
    ∷ line 9 (came 4 "000700000007") 0 (raised (PingResponseReceived (at 7))) ""
    ∷ line 10 (came 4 "0006") 0 (Err MalformedBody) ""
    ∷ line 11 (came 4 "001f00000001") 0 (Err MalformedBody) ""
    ∷ line 12 (came 4 "000000000001") 0 (Ok Nothing) ""
    ∷ line 13 (came 1 "7fffffff") 0 (Ok Nothing) ""
    ∷ line 14 (came 1 "80000000") 0 (Err InvalidMaxChunkSize) ""
    ∷ line 15 (came 2 "00000007") 0 (Ok (One (UnhandleableMessageReceived 2))) ""
    ∷ line 16 (came 6 "0000000102") 0 (Ok (One (UnhandleableMessageReceived 6))) ""
    ∷ line 17 (came 99 "") 0 (Ok (One (UnhandleableMessageReceived 99))) ""
    ∷ line 18 (came 3 "00000007") 0 (raised (AcknowledgementReceived 7)) ""
    ∷ line 19 (came 18 "0300016103000161030001610300016103000161030001610300016105000009000009000009000009000009000009000009") 0 (Ok Nothing) ""
    ∷ line 20 (came 18 "030001610300016103000161030001610300016103000161030001610300016105000009000009000009000009000009000009000009000009") 0 (Err MalformedBody) ""
    ∷ line 21 (came 20 "0200086f6e53746174757300000000000000000005030004636f646502000178000009") 0 (raised (UnhandleableOnStatusCode (span 31 1))) ""
    ∷ line 22 (came 20 "0200086f6e4257446f6e6500000000000000000005") 0
    (raised (UnhandleableAmf0Command (span 3 8) 0 20 21))
    ""
    ∷ line 23 publish_start 0 (Err (SessionInInvalidState Disconnected)) ""
    ∷ line 24 (came_on 1 70 8 "01") 0 (Err (SessionInInvalidState Disconnected)) ""
    ∷ line 25 (connect []) 83 (sent 20 25 0 false 83)
    "020007636f6e6e656374003ff00000000000000300036170700200000008666c61736856657202000e57494e2032332c302c302c323037000e6f626a656374456e636f64696e67000000000000000000000009"
    ∷ line 26 (came 20 "0200065f6572726f72003ff00000000000000503000b6465736372697074696f6e0200026e6f000009") 0 (raised (ConnectionRequestRejected (Some (span 36 2)))) ""
    ∷ line 27 (connect []) 83 (sent 20 27 0 false 83)
    "020007636f6e6e6563740040000000000000000300036170700200000008666c61736856657202000e57494e2032332c302c302c323037000e6f626a656374456e636f64696e67000000000000000000000009"
    ∷ line 28 (came 20 "0200065f6572726f7200400000000000000005") 0 (raised (ConnectionRequestRejected None)) ""
    ∷ []

-- Openings: with a tcUrl, and refused by 7 and by 9, after which the record that was handed back is no session. Records: next numbers, places, no
-- stream, a total that wraps
abbrev pub rows : List Run
rows =
    run (open_of default_config) (Ok Nothing) publishing (without Connected) quiet
    ∷ run (open_of default_config) (Ok Nothing) watching (without Connected) quiet
    ∷ run (open_of default_config) (Ok Nothing) late (with Connected 7) quiet
    ∷ run (open_of default_config) (Ok Nothing) holding (without Connected) quiet
    ∷ run (open_of default_config) (Ok Nothing) counting (without Disconnected)
    (record { chunk = 128; window = Some 100; pending = 7; total = 4294967376 })
    ∷ run (open_of default_config) (Ok Nothing) listening (without Disconnected) (record { chunk = 2147483647; window = None; pending = 0; total = 0 })
    ∷ run (open_of (settings (stored (ascii "F 9")) 2147483647 (stored (ascii "u")))) (Ok Nothing)
    (line 0 (connect (ascii "cam")) 86 (sent 20 0 0 false 86)
    "020007636f6e6e656374003ff000000000000003000361707002000363616d0008666c617368566572020003462039000e6f626a656374456e636f64696e670000000000000000000005746355726c02000175000009"
    ∷ line 1 (came 20 "0200075f726573756c74003ff000000000000005") 8 (accepted 1) "002625a07fffffff"
    ∷ [])
    (without Connected) quiet
    ∷ run (open_of (settings (stored []) 2147483648 (stored []))) (Err InvalidMaxChunkSize)
    (line 0 ping 6 (Err NotASession) "ffffffffffff" ∷ [])
    (without Disconnected) quiet
    ∷ run (open_of (settings (stored (255 ∷ [])) 2147483648 (stored []))) (Err Length)
    (line 0 (bytes 1) 0 (Err NotASession) "" ∷ [])
    (without Disconnected) quiet
    ∷ run (open_of (settings (stored []) 1 (stored (replicate 256 97)))) (Err Length) [] (without Disconnected) quiet
    ∷ run (requesting 0 (replicate 8 empty_place)) (Ok Nothing) (line 0 (came 4 "0006") 0 (Err NotASession) "" ∷ []) (without Disconnected) quiet
    ∷ run (requesting 4294967297 (replicate 8 empty_place)) (Ok Nothing) (line 0 (connect []) 0 (Err NotASession) "" ∷ []) (without Disconnected) quiet
    ∷ run (requesting 3 (asked 3 ∷ replicate 7 empty_place)) (Ok Nothing) (line 0 stop_playback 0 (Err NotASession) "" ∷ []) (without Disconnected) quiet
    ∷ run (requesting 3 (asked 2 ∷ asked 2 ∷ replicate 6 empty_place)) (Ok Nothing)
    (line 0 stop_playback 0 (Err NotASession) "" ∷ [])
    (without Disconnected) quiet
    ∷ run (requesting 4294967295 (replicate 8 empty_place)) (Ok Nothing)
    (line 0 (connect (255 ∷ [])) 0 (Err Length) ""
    ∷ line 0 (connect []) 83 (sent 20 0 0 false 83)
    "020007636f6e6e6563740041efffffffe000000300036170700200000008666c61736856657202000e57494e2032332c302c302c323037000e6f626a656374456e636f64696e67000000000000000000000009"
    ∷ line 0 (connect []) 0 (Err Spent) ""
    ∷ [])
    (without Disconnected) quiet
    ∷ run (requesting 9 (map asked (1 ∷ 2 ∷ 3 ∷ []) ++ (empty_place ∷ map asked (5 ∷ 6 ∷ 7 ∷ 8 ∷ [])))) (Ok Nothing)
    (line 0 (connect []) 83 (sent 20 0 0 false 83)
    "020007636f6e6e6563740040220000000000000300036170700200000008666c61736856657202000e57494e2032332c302c302c323037000e6f626a656374456e636f64696e67000000000000000000000009"
    ∷ line 0 (connect []) 0 (Err EightOpen) ""
    ∷ [])
    (without Disconnected) quiet
    ∷ run (requesting 4294967296 (map asked (1 ∷ 2 ∷ 3 ∷ 4 ∷ 5 ∷ 6 ∷ 7 ∷ 8 ∷ []))) (Ok Nothing)
    (line 0 (connect (255 ∷ [])) 0 (Err Length) "" ∷ line 0 (connect []) 0 (Err Spent) "" ∷ [])
    (without Disconnected) quiet
    ∷ run no_stream (Ok Nothing)
    (line 0 (picture (1 ∷ []) (at 0) false) 1 (Err NoKnownActiveStreamIdWhenRequired) "ff"
    ∷ line 0 stop_publishing 1 (Ok Nothing) "ff"
    ∷ line 0 (picture (1 ∷ []) (at 0) false) 1 (Err (SessionInInvalidState Connected)) "ff"
    ∷ [])
    (without Connected) quiet
    ∷ run full (Ok Nothing) (line 0 (bytes 3) 0 (Ok Nothing) "" ∷ []) (without Disconnected) (record { chunk = 128; window = None; pending = 0; total = 2 })
    ∷ []
