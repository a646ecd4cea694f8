-- The reader of messages makes of metadata that was sent, wherever in a body it stands, the metadata that it was made of: every field is the same, and
-- the encoder, which lies elsewhere, has the same text.
-- Assumes nothing.
use Prim.Native.Nat.{ℕ, zero, suc, ◌^◌, ◌<◌}
use native.Mathlib.Omega.{arith}
use mathlib.Core.Path.{◌≡◌, refl, ap}
use mathlib.Core.List.{List, [], ◌∷◌, ◌++◌, Memᴰ}
use lib.ListN.{length, drop, get_or}
use Rattle.std.specs.Prelude.{Some, None, Option, Bool, Float}
use Rattle.std.specs.Option.{option_map}
use Rattle.octets.specs.Compare.{part}
use Rattle.octets.specs.Parse.{Parse, got}
use Rattle.numbers.proofs.Laws.{held-number_of, narrowed-sent}
use Rattle.amf0.specs.Value.{boolean, text, object}
use Rattle.amf0.specs.Decode.{Property, top_value}
use Rattle.amf0.specs.Encode.{encode}
use Rattle.amf0.specs.Lookup.{property, properties_at}
use Rattle.amf0.specs.Places.{kind_of, stretch}
use Rattle.amf0.specs.declared.kinds.Kind.{Kind}
use Rattle.octets.specs.declared.span.Span.{Span}
use Rattle.amf0.proofs.RoundTrip.{round}
use Rattle.messages.proofs.FieldLaws.{FieldStands, field-stands}
use Rattle.messages.specs.Metadata.{field_kind, whole_field, rate_field, flag_field, text_field, metadata_in, metadata_at}
use Rattle.messages.specs.declared.stream_metadata.StreamMetadata.{StreamMetadata}
use Rattle.bodies.specs.MetadataBody.{metadata_props}
use Rattle.bodies.specs.Fields.{whole_value, rate_value, text_value, Field, fields}
use Rattle.bodies.proofs.CommandRound.{Sendable}
use Rattle.bodies.proofs.MetadataRound.{field-round, RateFits, object-fits}

-- ---- a field that is read is the field that was sent
abbrev pub WholeFits : Option ℕ → Type 0
WholeFits (Some n) = n < 2 ^ 32
WholeFits None = Unit {0}

module _ (b : List ℕ) (k : Option Kind) where
  whole_back : (v : Option ℕ) → WholeFits v → FieldStands b (option_map whole_value v) k → whole_field k ≡ v
  unfolding kind_of
  whole_back (Some n) h t = rw t.is (ap Some (held-number_of n h))
  whole_back None h t = rw t.is

  rate_back : (v : Option Float) → RateFits v → FieldStands b (option_map rate_value v) k → rate_field k ≡ v
  unfolding kind_of
  rate_back (Some x) h t = rw t.is (ap Some (narrowed-sent x h))
  rate_back None h t = rw t.is

  flag_back : (v : Option Bool) → FieldStands b (option_map boolean v) k → flag_field k ≡ v
  unfolding kind_of
  flag_back (Some x) t = rw t.is
  flag_back None t = rw t.is

  text-back : (s : List ℕ) (v : Option Span) → FieldStands b (option_map (text_value s) v) k → option_map (text_value b) (text_field k) ≡ option_map (text_value s) v
  unfolding kind_of
  text-back s (Some p) t = rw t.is (ap (λ (x : List ℕ). Some (text x)) (t.lies (part s p.start p.len) refl).is)
  text-back s None t = rw t.is

-- ---- all of them
member : (fs : List Field) (k : ℕ) (other : Field) → k < length fs → Memᴰ (get_or fs k other) fs
member [] k other h = absurd (omega arith)
member (f ∷ fs) zero other h = Memᴰ.head refl
member (f ∷ fs) (suc k) other h = Memᴰ.tail (member fs k other (omega arith))

-- metadata whose whole numbers have 32 bits, whose rate is a single and whose encoder can be sent
pub record Sound (s : List ℕ) (m : StreamMetadata) : Type 0 where
  pub width : WholeFits m.video_width
  pub height : WholeFits m.video_height
  pub video_codec : WholeFits m.video_codec_id
  pub rate : RateFits m.video_frame_rate
  pub video_rate : WholeFits m.video_bitrate_kbps
  pub audio_codec : WholeFits m.audio_codec_id
  pub audio_rate : WholeFits m.audio_bitrate_kbps
  pub sample_rate : WholeFits m.audio_sample_rate
  pub channels : WholeFits m.audio_channels
  pub encoder : Sendable (stretch s m.encoder)

-- m with its encoder elsewhere
abbrev pub with_encoder : StreamMetadata → Option Span → StreamMetadata
with_encoder m e =
    record {
      video_width = m.video_width;
      video_height = m.video_height;
      video_codec_id = m.video_codec_id;
      video_frame_rate = m.video_frame_rate;
      video_bitrate_kbps = m.video_bitrate_kbps;
      audio_codec_id = m.audio_codec_id;
      audio_bitrate_kbps = m.audio_bitrate_kbps;
      audio_sample_rate = m.audio_sample_rate;
      audio_channels = m.audio_channels;
      audio_is_stereo = m.audio_is_stereo;
      encoder = e;
    }

module _ (s : List ℕ) (m : StreamMetadata) (f : Sound s m) (b : List ℕ) (at : ℕ) (r : List ℕ)
    (x : drop at b ≡ encode (object (metadata_props s m)) ++ r) where
  abbrev Q : Parse (List Property)
  Q = properties_at (drop at b)

  abbrev other : Field
  other = record { name = []; value = None }

  nth : (k : ℕ) → k < 11 → FieldStands b (get_or (fields s m) k other).value (field_kind b (get_or (fields s m) k other).name Q)
  unfolding property
  nth k h =
      let e : top_value (drop at b) ≡ got (object (metadata_props s m)) r = rw x (round (object (metadata_props s m)) 8 r (object-fits s m f.rate f.encoder)) in
      rw (field-round s m (get_or (fields s m) k other) (member (fields s m) k other h)) at (field-stands (get_or (fields s m) k other).name b at e)

  pub metadata-read : metadata_at b (drop at b) ≡ with_encoder m (metadata_at b (drop at b)).encoder
  unfolding metadata_in
  metadata-read =
      rw (
        whole_back b _ m.video_width f.width (nth 0 (omega arith)),
        whole_back b _ m.video_height f.height (nth 1 (omega arith)),
        whole_back b _ m.video_codec_id f.video_codec (nth 2 (omega arith)),
        rate_back b _ m.video_frame_rate f.rate (nth 3 (omega arith)),
        whole_back b _ m.video_bitrate_kbps f.video_rate (nth 4 (omega arith)),
        whole_back b _ m.audio_codec_id f.audio_codec (nth 5 (omega arith)),
        whole_back b _ m.audio_bitrate_kbps f.audio_rate (nth 6 (omega arith)),
        whole_back b _ m.audio_sample_rate f.sample_rate (nth 7 (omega arith)),
        whole_back b _ m.audio_channels f.channels (nth 8 (omega arith)),
        flag_back b _ m.audio_is_stereo (nth 9 (omega arith)),
      )

  pub encoder_read : option_map (text_value b) (metadata_at b (drop at b)).encoder ≡ option_map (text_value s) m.encoder
  unfolding metadata_in
  encoder_read = text-back b _ s m.encoder (nth 10 (omega arith))
