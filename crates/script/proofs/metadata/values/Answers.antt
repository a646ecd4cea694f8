-- `script::metadata::values` meets its contract: field by field.
-- Assumes nothing.
use Rattle.script.specs.Metadata.{metadata_of}
use Rattle.script.proofs.metadata.values.Goals as goal

pub returns : goal.returns
unfolding metadata_of
returns c = λ i. record {
  video_width = c.whole.ensures i;
  video_height = c.whole-2.ensures i;
  video_codec_id = c.whole-3.ensures i;
  video_frame_rate = c.rate.ensures i;
  video_bitrate_kbps = c.whole-4.ensures i;
  audio_codec_id = c.whole-5.ensures i;
  audio_bitrate_kbps = c.whole-6.ensures i;
  audio_sample_rate = c.whole-7.ensures i;
  audio_channels = c.whole-8.ensures i;
  audio_is_stereo = c.flag.ensures i;
  encoder = c.last_value.ensures i;
}
