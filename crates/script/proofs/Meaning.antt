-- What the definitions mean: document 01's case, with lines of the other verbs and lines that can't be read.
-- Assumes nothing.
use Rattle.std.specs.Prelude.{Some, None, Ok, Err}
use Rattle.std.proofs.Common.{◌≡◌, refl, true, false, [], ◌∷◌, map, Some, None, Ok, Err}
use Prim.Native.String.{String}
use Rattle.std.specs.Float.{binary32}
use Rattle.std.specs.Float.Ieee.{of_bits}
use Rattle.octets.specs.Compare.{ascii, same}
use Rattle.messages.specs.declared.publish_request_type.PublishRequestType.TheVariants.{Live}
use Rattle.script.specs.declared.asked.Line.TheVariants as lines
use Rattle.script.specs.declared.reasons.Why.TheVariants as why
use Rattle.script.specs.Hex.{is_hex, is_digit, pairs, pair_value}
use Rattle.script.specs.Decimal.{decimal_from, decimal_of}
use Rattle.script.specs.Fields.{bare, fields_from, fields_at}
use Rattle.script.specs.Lines.{timestamp, stream, line_of, bare_line, call_line, open_line, word_of, text_of, number_of, hex_of, flag_of, rest, ended, settings}
use Rattle.script.specs.Metadata.{metadata_line, begins, check_fields, rate_of, metadata_of, last_value}
use Rattle.octets.specs.Span.{span}

-- the lines of document 01's case, a line of each other verb, and lines that can't be read
pub lines_are : map (λ (t : String). line_of (ascii t))
    ("0\tbytes\t10" ∷ "0\tmsg\t5\t0\t0\t00000004" ∷ "7\tbytes\t4\r" ∷ "1\tconnect\tapp" ∷ "1\tplay\t" ∷ "1\tpublish\tkey\tlive" ∷ "1\tstop_playback" ∷ "1\tstop_publishing"
    ∷ "1\tping" ∷ "1\tvideo\t2\t1\taB" ∷ "1\taudio\t2\t0\t" ∷ "1\tmetadata\twidth=1" ∷ "1\topen" ∷ "1\topen\tf\t2\t3\t4" ∷ "1\topen\tf\t2\t3\t4\t" ∷ "1\tspace\t9" ∷ "" ∷ "\r" ∷ [])
    ≡ Ok (lines.Bytes (timestamp 0) 10) ∷ Ok (lines.Msg (timestamp 0) 5 (timestamp 0) (stream 0) (span 12 8)) ∷ Ok (lines.Bytes (timestamp 7) 4)
    ∷ Ok (lines.Connect (timestamp 1) (span 10 3)) ∷ Ok (lines.Play (timestamp 1) (span 7 0)) ∷ Ok (lines.Publish (timestamp 1) (span 10 3) Live)
    ∷ Ok (lines.StopPlayback (timestamp 1)) ∷ Ok (lines.StopPublishing (timestamp 1)) ∷ Ok (lines.Ping (timestamp 1))
    ∷ Ok (lines.Video (timestamp 1) (timestamp 2) true (span 12 2)) ∷ Ok (lines.Audio (timestamp 1) (timestamp 2) false (span 12 0)) ∷ Ok (lines.Metadata (timestamp 1) 10)
    ∷ Ok lines.OpenDefault ∷ Ok (lines.Open (settings (span 7 1) 2 3 4 None)) ∷ Ok (lines.Open (settings (span 7 1) 2 3 4 (Some (span 15 0))))
    ∷ Ok (lines.Space 9) ∷ Ok lines.Empty ∷ Ok lines.Empty ∷ []
unfolding bare bare_line fields_from fields_at call_line open_line word_of text_of number_of hex_of flag_of rest ended decimal_of decimal_from is_hex is_digit same
lines_are = refl

pub bad-lines-are : map (λ (t : String). line_of (ascii t))
    ("1\tfly" ∷ "1" ∷ "1\tmsg\t256\t0\t0\t" ∷ "1\tping\t" ∷ "1\tmsg\t1\t0\t0\tabc" ∷ "1\tpublish\tkey\tLive" ∷ "1\tvideo\t0\t2\t" ∷ "4294967296\tping" ∷ "-1\tping" ∷ "1\topen\tf\t2\t3" ∷ [])
    ≡ Err why.Verb ∷ Err why.Missing ∷ Err why.Number ∷ Err why.Extra ∷ Err why.Hex ∷ Err why.Kind ∷ Err why.Flag
    ∷ Err why.Number ∷ Err why.Number ∷ Err why.Missing ∷ []
unfolding bare bare_line fields_from fields_at call_line open_line word_of text_of number_of hex_of flag_of rest ended decimal_of decimal_from is_hex is_digit same
bad-lines-are = refl

-- the fields of metadata: of equal names the later holds; and fields that can't be read
pub metadata-is : metadata_line (ascii "1\tmetadata\twidth=5\tframerate=41eFc28f\tstereo=1\twidth=640\tencoder=a b\r") 10
    ≡ Ok (record {
      video_width = Some 640;
      video_height = None;
      video_codec_id = None;
      video_frame_rate = Some (of_bits binary32 0x41ef_c28f);
      video_bitrate_kbps = None;
      audio_codec_id = None;
      audio_bitrate_kbps = None;
      audio_sample_rate = None;
      audio_channels = None;
      audio_is_stereo = Some true;
      encoder = Some (span 65 3);
    })
unfolding bare fields_from fields_at begins check_fields rate_of metadata_of last_value is_hex is_digit pairs pair_value decimal_of decimal_from same
metadata-is = refl

pub bad-metadata-is : map (λ (t : String). metadata_line (ascii t) 0)
    ("\twidth=" ∷ "\twidth=1\theight=4294967296" ∷ "\tfoo=1" ∷ "\twidth" ∷ "\t" ∷ "\tframerate=41efc2" ∷ "\tstereo=2" ∷ [])
    ≡ Err why.Number ∷ Err why.Number ∷ Err why.Name ∷ Err why.Name ∷ Err why.Name ∷ Err why.Hex ∷ Err why.Flag ∷ []
unfolding bare fields_from fields_at begins check_fields rate_of metadata_of last_value is_hex is_digit pairs pair_value decimal_of decimal_from same
bad-metadata-is = refl
