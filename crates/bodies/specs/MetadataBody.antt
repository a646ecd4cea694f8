-- Metadata as it is sent: `@setDataFrame`, `onMetaData` and an object with the fields that are present, in document 01's order.
-- Assumes nothing.
use Rattle.std.specs.Prelude.{ℕ, List, Option, Some, None, Bool, Float}
use Rattle.std.specs.Float.{binary64}
use Rattle.std.specs.Float.Ieee.{to_bits}
use Rattle.octets.specs.Compare.{ascii, part}
use Rattle.numbers.specs.Numbers.{number_of}
use Rattle.amf0.specs.Value.{number, boolean, text, object, Props, end, prop, Values, nil, cons}
use Rattle.amf0.specs.Encode.{encode_values}
use Rattle.octets.specs.declared.span.Span.{Span}
use Rattle.messages.specs.declared.stream_metadata.StreamMetadata.{StreamMetadata}

-- a field before the others, or only the others where it is absent
unfoldable pub whole_prop : List ℕ → Option ℕ → Props → Props
whole_prop name (Some n) ps = prop name (number (number_of n)) ps
whole_prop name None ps = ps

-- a single widens without loss; a NaN's pattern is 7ff8000000000000
unfoldable pub rate_prop : List ℕ → Option Float → Props → Props
rate_prop name (Some x) ps = prop name (number (to_bits binary64 x)) ps
rate_prop name None ps = ps

unfoldable pub flag_prop : List ℕ → Option Bool → Props → Props
flag_prop name (Some b) ps = prop name (boolean b) ps
flag_prop name None ps = ps

-- a text that lies in s
unfoldable pub text_prop : List ℕ → List ℕ → Option Span → Props → Props
text_prop s name (Some p) ps = prop name (text (part s p.start p.len)) ps
text_prop s name None ps = ps

unfoldable pub metadata_props : List ℕ → StreamMetadata → Props
metadata_props s m =
    whole_prop (ascii "width") m.video_width
    (whole_prop (ascii "height") m.video_height
    (whole_prop (ascii "videocodecid") m.video_codec_id
    (rate_prop (ascii "framerate") m.video_frame_rate
    (whole_prop (ascii "videodatarate") m.video_bitrate_kbps
    (whole_prop (ascii "audiocodecid") m.audio_codec_id
    (whole_prop (ascii "audiodatarate") m.audio_bitrate_kbps
    (whole_prop (ascii "audiosamplerate") m.audio_sample_rate
    (whole_prop (ascii "audiochannels") m.audio_channels
    (flag_prop (ascii "stereo") m.audio_is_stereo
    (text_prop s (ascii "encoder") m.encoder
    end))))))))))

abbrev pub metadata_values : List ℕ → StreamMetadata → Values
metadata_values s m = cons (text (ascii "@setDataFrame")) (cons (text (ascii "onMetaData")) (cons (object (metadata_props s m)) nil))

unfoldable pub metadata_body : List ℕ → StreamMetadata → List ℕ
metadata_body s m = encode_values (metadata_values s m)
