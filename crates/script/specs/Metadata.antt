-- The fields of metadata in a line: NAME=VALUE, where a whole field is decimal, the frame rate the pattern of a single in 8 hexadecimal digits, stereo 0 or 1, and
-- the encoder a text. Of equal names the later holds.
-- Assumes nothing.
use Rattle.std.specs.Prelude.{ℕ, ◌+◌, ◌-◌, Bool, cond, ◌&&◌, List, [], ◌∷◌, eqb, length, take, drop, Option, Some, None, option_and_then, Result, Ok, Float}
use Rattle.std.specs.List.{find}
use Rattle.std.specs.Option.{ok_or, option_or, option_map}
use Rattle.std.specs.Float.{binary32}
use Rattle.std.specs.Float.Ieee.{of_bits}
use Rattle.octets.specs.BigEndian.{be}
use Rattle.octets.specs.Compare.{ascii, same, part}
use Rattle.octets.specs.declared.span.Span.{Span}
use Rattle.messages.specs.declared.stream_metadata.StreamMetadata.{StreamMetadata}
use Rattle.script.specs.declared.reasons.Why.{Why}
use Rattle.script.specs.declared.reasons.Why.TheVariants as why
use Rattle.script.specs.declared.named.FieldKind.{FieldKind}
use Rattle.script.specs.declared.named.FieldKind.TheVariants.{Whole, Rate, Flag, Text}
use Rattle.script.specs.Hex.{is_hex, pairs}
use Rattle.script.specs.Decimal.{decimal_of}
use Rattle.script.specs.Fields.{Field, fields_after, bare}
use Rattle.script.specs.Lines.{on, flag}

-- s begins with the name, which has its equals sign
unfoldable pub begins : List ℕ → List ℕ → Bool
begins name s = same (take (length name) s) name

-- what a field's value has to be, by the field's name
abbrev pub kinds : List (List ℕ × FieldKind)
kinds =
    (ascii "width=", Whole) ∷ (ascii "height=", Whole) ∷ (ascii "videocodecid=", Whole) ∷ (ascii "framerate=", Rate)
    ∷ (ascii "videodatarate=", Whole) ∷ (ascii "audiocodecid=", Whole) ∷ (ascii "audiodatarate=", Whole)
    ∷ (ascii "audiosamplerate=", Whole) ∷ (ascii "audiochannels=", Whole) ∷ (ascii "stereo=", Flag) ∷ (ascii "encoder=", Text) ∷ []

-- by the first of the names with which the field begins; and the value, which is what comes after it
abbrev pub field_kind : List ℕ → Option (FieldKind × List ℕ)
field_kind s = option_map (λ row. (row.1, drop (length row.0) s)) (find (λ row. begins row.0 s) kinds)

-- a single's pattern in 8 digits
unfoldable pub rate_of : List ℕ → Option Float
rate_of d = cond (eqb (length d) 8 && is_hex d) (Some (of_bits binary32 (be (pairs d)))) None

-- a value that can't be read is what is wrong with its field
abbrev pub checked : {A : Type 0} → Option A → Why → Result (Unit {0}) Why
checked value w = on (ok_or value w) (λ x. Ok tt)

abbrev pub check_as : FieldKind → List ℕ → Result (Unit {0}) Why
check_as Whole value = checked (decimal_of value) why.Number
check_as Rate value = checked (rate_of value) why.Hex
check_as Flag value = checked (option_and_then flag (decimal_of value)) why.Flag
check_as Text value = Ok tt

abbrev pub check_field : List ℕ → Result (Unit {0}) Why
check_field s = on (ok_or (field_kind s) why.Name) (λ f. check_as f.0 f.1)

-- the first field with something wrong
unfoldable pub check_fields : List Field → Result (Unit {0}) Why
check_fields [] = Ok tt
check_fields (f ∷ fs) = on (check_field f.bytes) (λ u. check_fields fs)

-- the place of the value in a field that begins with the name
abbrev pub value_in : ℕ → List ℕ → List ℕ → Option Span
value_in start bytes name = cond (begins name bytes) (Some (record { start = start + length name; len = length bytes - length name })) None

-- the place of the value of the last field of that name
unfoldable pub last_value : List ℕ → List Field → Option Span → Option Span
last_value name [] best = best
last_value name (f ∷ fs) best = last_value name fs (option_or (value_in f.start f.bytes name) best)

-- the value there
abbrev pub whole_at : List ℕ → Option Span → Option ℕ
whole_at s value = option_and_then (λ v. decimal_of (part s v.start v.len)) value

abbrev pub rate_at : List ℕ → Option Span → Option Float
rate_at s value = option_and_then (λ v. rate_of (part s v.start v.len)) value

abbrev pub flag_at : List ℕ → Option Span → Option Bool
flag_at s value = option_and_then flag (whole_at s value)

-- the line s, of which fs are the fields
unfoldable pub metadata_of : List ℕ → List Field → StreamMetadata
metadata_of s fs =
    record {
      video_width = whole_at s (last_value (ascii "width=") fs None);
      video_height = whole_at s (last_value (ascii "height=") fs None);
      video_codec_id = whole_at s (last_value (ascii "videocodecid=") fs None);
      video_frame_rate = rate_at s (last_value (ascii "framerate=") fs None);
      video_bitrate_kbps = whole_at s (last_value (ascii "videodatarate=") fs None);
      audio_codec_id = whole_at s (last_value (ascii "audiocodecid=") fs None);
      audio_bitrate_kbps = whole_at s (last_value (ascii "audiodatarate=") fs None);
      audio_sample_rate = whole_at s (last_value (ascii "audiosamplerate=") fs None);
      audio_channels = whole_at s (last_value (ascii "audiochannels=") fs None);
      audio_is_stereo = flag_at s (last_value (ascii "stereo=") fs None);
      encoder = last_value (ascii "encoder=") fs None;
    }

abbrev pub metadata_fields : List ℕ → List Field → Result StreamMetadata Why
metadata_fields s fs = on (check_fields fs) (λ u. Ok (metadata_of s fs))

-- the fields of the line s after the place `to`
abbrev pub metadata_line : List ℕ → ℕ → Result StreamMetadata Why
metadata_line s to = metadata_fields (bare s) (fields_after (bare s) to)
