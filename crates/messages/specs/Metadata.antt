-- The metadata of a stream, read from an object. Of equal names the later holds, and then its kind is judged: a field is absent where the
-- value is of the wrong kind (document 01, "Bodies").
-- Assumes nothing.
use Rattle.std.specs.Prelude.{ℕ, Bool, Float, List, [], ◌∷◌, map, drop, Option, Some, None, Result, Ok, Err}
use Rattle.std.specs.List.{position}
use Rattle.std.specs.Option.{option_map}
use Rattle.std.specs.Result.{result_ok}
use Rattle.std.specs.Float.{binary64}
use Rattle.std.specs.Float.Ieee.{of_bits}
use Rattle.octets.specs.Parse.{Parse, bad, got}
use Rattle.octets.specs.Compare.{ascii, same}
use Rattle.numbers.specs.Numbers.{held, narrowed}
use Rattle.amf0.specs.Value.{Value}
use Rattle.amf0.specs.Decode.{Property}
use Rattle.amf0.specs.Lookup.{last_of, properties_at}
use Rattle.amf0.specs.Places.{malformed, kind_at, kind_of, found_at, only_text, only_number}
use Rattle.amf0.specs.declared.kinds.Kind.{Kind}
use Rattle.amf0.specs.declared.kinds.Kind.TheVariants as kind
use Rattle.amf0.specs.declared.read.Malformed.{Malformed}
use Rattle.octets.specs.declared.span.Span.{Span}
use Rattle.messages.specs.declared.stream_metadata.StreamMetadata.{StreamMetadata}

-- the kind of the last property of that name, with what it holds
abbrev pub kind_found : List ℕ → Option Property → Option Kind
kind_found s None = None
kind_found s (Some p) = result_ok (kind_at s p.from)

unfoldable pub field_kind : List ℕ → List ℕ → Parse (List Property) → Option Kind
field_kind s name bad = None
field_kind s name (got ps r) = kind_found s (last_of name ps)

-- the same by the value of that property, if there is one, where r is what was left after it: `proofs/FieldLaws.antt` shows that `field_kind` is this
abbrev pub field_of : List ℕ → List ℕ → Option Value → Option Kind
field_of s r None = None
field_of s r (Some v) = Some (kind_of s v r)

-- the fields' names, in the order of sending
abbrev pub field_names : List (List ℕ)
field_names =
    ascii "width"
    ∷ ascii "height"
    ∷ ascii "videocodecid"
    ∷ ascii "framerate"
    ∷ ascii "videodatarate"
    ∷ ascii "audiocodecid"
    ∷ ascii "audiodatarate"
    ∷ ascii "audiosamplerate"
    ∷ ascii "audiochannels"
    ∷ ascii "stereo"
    ∷ ascii "encoder"
    ∷ []

-- which of the names n is; none of another name
abbrev pub field_index : List ℕ → Option ℕ
field_index n = position (same n) field_names

-- for each field where its value starts, of the properties that were read
unfoldable pub field_places : List ℕ → Parse (List Property) → Result (List (Option ℕ)) Malformed
field_places s bad = Err malformed
field_places s (got ps r) = Ok (map (λ n. found_at s (last_of n ps)) field_names)

-- the kind of the value at such a place
abbrev pub kind_there : List ℕ → Option ℕ → Option Kind
kind_there s None = None
kind_there s (Some e) = result_ok (kind_at s (drop e s))

-- what a kind tells, if there is one
abbrev pub number_field : Option Kind → Option ℕ
number_field None = None
number_field (Some k) = only_number k

-- a whole field is held as a reply number is
abbrev pub whole_field : Option Kind → Option ℕ
whole_field k = option_map held (number_field k)

-- the frame rate is the nearest single
abbrev pub rate_field : Option Kind → Option Float
rate_field k = option_map (λ b. narrowed (of_bits binary64 b)) (number_field k)

abbrev pub text_field : Option Kind → Option Span
text_field None = None
text_field (Some k) = only_text k

abbrev pub flag_field : Option Kind → Option Bool
flag_field None = None
flag_field (Some (kind.Boolean b)) = Some b
flag_field (Some (kind.Number b)) = None
flag_field (Some (kind.Text p)) = None
flag_field (Some kind.Object) = None
flag_field (Some kind.Null) = None
flag_field (Some kind.Undefined) = None
flag_field (Some kind.Array) = None

-- of the properties ps of an object in the body s
unfoldable pub metadata_in : List ℕ → Parse (List Property) → StreamMetadata
metadata_in s ps =
    record {
      video_width = whole_field (field_kind s (ascii "width") ps);
      video_height = whole_field (field_kind s (ascii "height") ps);
      video_codec_id = whole_field (field_kind s (ascii "videocodecid") ps);
      video_frame_rate = rate_field (field_kind s (ascii "framerate") ps);
      video_bitrate_kbps = whole_field (field_kind s (ascii "videodatarate") ps);
      audio_codec_id = whole_field (field_kind s (ascii "audiocodecid") ps);
      audio_bitrate_kbps = whole_field (field_kind s (ascii "audiodatarate") ps);
      audio_sample_rate = whole_field (field_kind s (ascii "audiosamplerate") ps);
      audio_channels = whole_field (field_kind s (ascii "audiochannels") ps);
      audio_is_stereo = flag_field (field_kind s (ascii "stereo") ps);
      encoder = text_field (field_kind s (ascii "encoder") ps);
    }

-- of the object that x, a last part of s, begins with
abbrev pub metadata_at : List ℕ → List ℕ → StreamMetadata
metadata_at s x = metadata_in s (properties_at x)
