-- How many bytes the fields of metadata take, for the space test of the whole body.
-- Assumes nothing.
use Rattle.std.specs.Prelude.{ℕ, ◌+◌, List, length, Option, Some, None}
use Rattle.amf0.specs.Places.{stretch}
use Rattle.messages.specs.declared.stream_metadata.StreamMetadata.{StreamMetadata}

-- n where there is a value
abbrev pub size_if : {A : Type 0} → Option A → ℕ → ℕ
size_if (Some v) n = n
size_if None n = 0

abbrev pub video_size : StreamMetadata → ℕ
video_size m =
    size_if m.video_width 16
    + size_if m.video_height 17
    + size_if m.video_codec_id 23
    + size_if m.video_frame_rate 20

abbrev pub rate_size : StreamMetadata → ℕ
rate_size m =
    size_if m.video_bitrate_kbps 24
    + size_if m.audio_codec_id 23
    + size_if m.audio_bitrate_kbps 24
    + size_if m.audio_sample_rate 26

-- the object's end with them
abbrev pub last_size : List ℕ → StreamMetadata → ℕ
last_size s m =
    size_if m.audio_channels 24
    + size_if m.audio_is_stereo 10
    + size_if m.encoder (length (stretch s m.encoder) + 12)
    + 3
