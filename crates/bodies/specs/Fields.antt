-- The eleven fields of metadata with the names and values that they are sent under. `proofs/MetadataRound.antt` shows that each name's value is
-- what stands in the object that is sent.
-- Assumes nothing.
use Rattle.std.specs.Prelude.{ℕ, List, [], ◌∷◌, ◌++◌, Option, Some, None, Float}
use Rattle.std.specs.Option.{option_map}
use Rattle.std.specs.Float.{binary64}
use Rattle.std.specs.Float.Ieee.{to_bits}
use Rattle.octets.specs.Compare.{ascii, part}
use Rattle.numbers.specs.Numbers.{number_of}
use Rattle.amf0.specs.Value.{Value, number, boolean, text, Props, end, prop}
use Rattle.amf0.specs.Encode.{text_bytes, encode}
use Rattle.octets.specs.declared.span.Span.{Span}
use Rattle.messages.specs.declared.stream_metadata.StreamMetadata.{StreamMetadata}

-- the value that a whole number is sent as, a single, and a text that lies in s; a flag is `boolean`
abbrev pub whole_value : ℕ → Value
whole_value n = number (number_of n)

abbrev pub rate_value : Float → Value
rate_value x = number (to_bits binary64 x)

abbrev pub text_value : List ℕ → Span → Value
text_value s p = text (part s p.start p.len)

pub record Field : Type 0 where
  pub name : List ℕ
  pub value : Option Value

-- in document 01's order, in three groups
abbrev pub video_fields : StreamMetadata → List Field
video_fields m =
    record { name = ascii "width"; value = option_map whole_value m.video_width }
    ∷ record { name = ascii "height"; value = option_map whole_value m.video_height }
    ∷ record { name = ascii "videocodecid"; value = option_map whole_value m.video_codec_id }
    ∷ record { name = ascii "framerate"; value = option_map rate_value m.video_frame_rate }
    ∷ []

abbrev pub rate_fields : StreamMetadata → List Field
rate_fields m =
    record { name = ascii "videodatarate"; value = option_map whole_value m.video_bitrate_kbps }
    ∷ record { name = ascii "audiocodecid"; value = option_map whole_value m.audio_codec_id }
    ∷ record { name = ascii "audiodatarate"; value = option_map whole_value m.audio_bitrate_kbps }
    ∷ record { name = ascii "audiosamplerate"; value = option_map whole_value m.audio_sample_rate }
    ∷ []

abbrev pub last_fields : List ℕ → StreamMetadata → List Field
last_fields s m =
    record { name = ascii "audiochannels"; value = option_map whole_value m.audio_channels }
    ∷ record { name = ascii "stereo"; value = option_map boolean m.audio_is_stereo }
    ∷ record { name = ascii "encoder"; value = option_map (text_value s) m.encoder }
    ∷ []

abbrev pub fields : List ℕ → StreamMetadata → List Field
fields s m = video_fields m ++ (rate_fields m ++ last_fields s m)

-- the bytes of a property that may be absent, and of several
unfoldable pub field_bytes : List ℕ → Option Value → List ℕ
field_bytes name None = []
field_bytes name (Some v) = text_bytes name ++ encode v

abbrev pub fields_bytes : List Field → List ℕ
fields_bytes [] = []
fields_bytes (f ∷ fs) = field_bytes f.name f.value ++ fields_bytes fs

-- a property before the others, or only the others where it is absent
unfoldable pub prop_if : List ℕ → Option Value → Props → Props
prop_if name None ps = ps
prop_if name (Some v) ps = prop name v ps

-- the properties that are present
abbrev pub present : List Field → Props
present [] = end
present (f ∷ fs) = prop_if f.name f.value (present fs)
