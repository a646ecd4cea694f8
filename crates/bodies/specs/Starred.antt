-- Cases on bodies, as rows of one table: a body, and its bytes in hexadecimal. `proofs/Starred.antt` has the theorem: each row holds.
-- Assumes nothing.
use Rattle.std.specs.Prelude.{ℕ, true, false, List, [], ◌∷◌, Some, None}
use Prim.Native.String.{String}
use Rattle.std.specs.Float.{binary32}
use Rattle.std.specs.Float.Ieee.{of_bits}
use Rattle.octets.specs.Compare.{ascii}
use Rattle.messages.specs.declared.publish_request_type.PublishRequestType.TheVariants.{Append}
use Rattle.messages.specs.declared.rtmp_message.UserControlEvent.TheVariants.{SetBufferLength, PingRequest, PingResponse}
use Rattle.messages.specs.declared.stream_metadata.StreamMetadata.{StreamMetadata}
use Rattle.bodies.specs.Bodies.{connect_body, create_stream_body, delete_stream_body, play_body, publish_body, control_body, word_body}
use Rattle.bodies.specs.MetadataBody.{metadata_body}
use Rattle.octets.specs.Span.{span}

pub record Row : Type 0 where
  pub body : List ℕ
  pub hex : String

-- four fields, and seven that are absent; "Cam" is the encoder, and the rate a NaN
abbrev pub some_fields : StreamMetadata
some_fields =
    record {
      video_width = Some 640;
      video_height = None;
      video_codec_id = None;
      video_frame_rate = Some (of_bits binary32 0x7fc0_0001);
      video_bitrate_kbps = None;
      audio_codec_id = None;
      audio_bitrate_kbps = None;
      audio_sample_rate = None;
      audio_channels = None;
      audio_is_stereo = Some true;
      encoder = Some (span 1 3);
    }

-- The first three are starred in document 01, "Spindle cases". The others are not: they are worked out from the papers.
abbrev pub rows : List Row
rows =
    record { body = create_stream_body 2; hex = "02000c63726561746553747265616d00400000000000000005" }
    ∷ record { body = control_body (SetBufferLength (record { 0 = 1 }) 2000); hex = "000300000001000007d0" }
    ∷ record { body = control_body (PingResponse (record { 0 = 7 })); hex = "000700000007" }
    ∷ record { body = control_body (PingRequest (record { 0 = 0xffff_fffe })); hex = "0006fffffffe" }
    ∷ record { body = word_body 2500000; hex = "002625a0" }
    ∷ record {
      body = connect_body 1 (ascii "cam") (ascii "F 9") true (ascii "rtmp://h/cam");
      hex = "020007636f6e6e656374003ff000000000000003000361707002000363616d0008666c617368566572020003462039000e6f626a656374456e636f64696e670000000000000000000005746355726c02000c72746d703a2f2f682f63616d000009";
    }
    ∷ record {
      body = connect_body 3 (ascii "") (ascii "F 9") false (ascii "rtmp://h/cam");
      hex = "020007636f6e6e6563740040080000000000000300036170700200000008666c617368566572020003462039000e6f626a656374456e636f64696e67000000000000000000000009";
    }
    ∷ record {
      body = delete_stream_body 0xffff_ffff;
      hex = "02000c64656c65746553747265616d000000000000000000050041efffffffe00000";
    }
    ∷ record {
      body = play_body (ascii "key");
      hex = "020004706c6179000000000000000000050200036b6579";
    }
    ∷ record {
      body = publish_body (ascii "key") Append;
      hex = "0200077075626c697368000000000000000000050200036b6579020006617070656e64";
    }
    ∷ record {
      body = metadata_body (ascii "aCamera") some_fields;
      hex = "02000d40736574446174614672616d6502000a6f6e4d65746144617461030005776964746800408400000000000000096672616d6572617465007ff8000000000000000673746572656f01010007656e636f64657202000343616d000009";
    }
    ∷ []
