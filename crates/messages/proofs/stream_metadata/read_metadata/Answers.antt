-- `messages::stream_metadata::read_metadata` meets its contract: field by field.
-- Assumes nothing.
use Rattle.std.proofs.Common.{◌≡◌, ◌<◌, ℕ, arith, drop, get_or, ◌∙◌}
use Rattle.std.specs.Prelude.{Option, None}
use Prim.Native.String.{String}
use Rattle.octets.specs.Compare.{ascii}
use Rattle.amf0.specs.Lookup.{properties_at}
use Rattle.amf0.specs.declared.kinds.Kind.{Kind}
use Rattle.messages.specs.Metadata.{field_kind, kind_there, metadata_in}
use Rattle.messages.proofs.PlacesLaws.{name_at, kind-of-field}
use Rattle.messages.proofs.stream_metadata.read_metadata.Goals as goal
use Rattle.messages.proofs.stream_metadata.read_metadata.Goals.{After-unwrap_or-places}

-- k is the kind of the property n
abbrev Field : After-unwrap_or-places → String → Option Kind → Type 0
Field c n k = k ≡ field_kind c.args.body.now (ascii n) (properties_at (drop c.args.at c.args.body.now))

-- the kind at the place of the field i
field : (c : After-unwrap_or-places) (i : ℕ) → i < 11 →
    let a = c.args in
    kind_there a.body.now (get_or c.unwrap_or-places.result i None) ≡ field_kind a.body.now (name_at i) (properties_at (drop a.at a.body.now))
field c i h = let a = c.args in rw c.unwrap_or-places.ensures (kind-of-field a.body.now a.at c.places_at.result c.places_at.ensures i h)

pub returns : goal.returns
unfolding metadata_in
returns c =
    let b = (goal.at.returns c).After-unwrap_or-places in
    let f1 : Field b "width" c.kind_there.result = c.kind_there.ensures ∙ field b 0 (omega arith) in
    let f2 : Field b "height" c.kind_there-2.result = c.kind_there-2.ensures ∙ field b 1 (omega arith) in
    let f3 : Field b "videocodecid" c.kind_there-3.result = c.kind_there-3.ensures ∙ field b 2 (omega arith) in
    let f4 : Field b "framerate" c.kind_there-4.result = c.kind_there-4.ensures ∙ field b 3 (omega arith) in
    let f5 : Field b "videodatarate" c.kind_there-5.result = c.kind_there-5.ensures ∙ field b 4 (omega arith) in
    let f6 : Field b "audiocodecid" c.kind_there-6.result = c.kind_there-6.ensures ∙ field b 5 (omega arith) in
    let f7 : Field b "audiodatarate" c.kind_there-7.result = c.kind_there-7.ensures ∙ field b 6 (omega arith) in
    let f8 : Field b "audiosamplerate" c.kind_there-8.result = c.kind_there-8.ensures ∙ field b 7 (omega arith) in
    let f9 : Field b "audiochannels" c.kind_there-9.result = c.kind_there-9.ensures ∙ field b 8 (omega arith) in
    let f10 : Field b "stereo" c.kind_there-10.result = c.kind_there-10.ensures ∙ field b 9 (omega arith) in
    let f11 : Field b "encoder" c.kind_there-11.result = c.kind_there-11.ensures ∙ field b 10 (omega arith) in
    rw (
      ← f1,
      ← c.whole.ensures,
      ← f2,
      ← c.whole-2.ensures,
      ← f3,
      ← c.whole-3.ensures,
      ← f4,
      ← c.rate.ensures,
      ← f5,
      ← c.whole-4.ensures,
      ← f6,
      ← c.whole-5.ensures,
      ← f7,
      ← c.whole-6.ensures,
      ← f8,
      ← c.whole-7.ensures,
      ← f9,
      ← c.whole-8.ensures,
      ← f10,
      ← c.flag.ensures,
      ← f11,
      ← c.text.ensures,
    )
