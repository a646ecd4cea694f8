-- Metadata that was written is read as the values that it was written from; and in its object each of the eleven names has exactly its field's
-- value, whichever fields are absent.
-- Assumes nothing.
use Prim.Native.Nat.{ℕ, ◌^◌, ◌<◌}
use native.Mathlib.Omega.{arith}
use mathlib.Core.Path.{◌≡◌, refl, sym, ap, ◌∙◌}
use mathlib.Core.Bool.{Bool, true, false, not, ◌&&◌, ◌||◌}
use mathlib.Core.List.{List, [], ◌∷◌, Memᴰ}
use lib.Dec.{T, ltb}
use lib.ListN.{length}
use lib.Ieee.{binary32, fits}
use lib.Ieee.Fits.{fits_widens}
use borrow.Author.Tests.{ltb-true, not-true}
use Rattle.std.proofs.lemmas.Bool.{and_parts, or_parts}
use Rattle.std.specs.Prelude.{Option, Some, None, Float}
use Rattle.std.specs.Option.{option_map}
use Rattle.octets.specs.Compare.{ascii, same}
use Rattle.octets.proofs.CompareLaws.{same-ne, ne_same, eq-same}
use Rattle.octets.proofs.Utf8Laws.{all_ascii}
use Rattle.numbers.proofs.Laws.{sent-lt}
use Rattle.amf0.specs.Value.{Value, boolean, text, object, Props, nil, cons}
use Rattle.amf0.specs.Encode.{encode_values, Within, PropsWithin, ValuesWithin}
use Rattle.amf0.specs.Lookup.{lookup}
use Rattle.amf0.specs.Places.{stretch}
use Rattle.octets.specs.declared.span.Span.{Span}
use Rattle.amf0.proofs.RoundTrip.{next_round, values-round}
use Rattle.messages.specs.Incoming.{values, data_of, decode}
use Rattle.messages.specs.declared.stream_metadata.StreamMetadata.{StreamMetadata}
use Rattle.bodies.specs.MetadataBody.{metadata_props, metadata_values, metadata_body}
use Rattle.bodies.specs.Fields.{whole_value, rate_value, text_value, Field, fields, prop_if, present}
use Rattle.bodies.proofs.FieldLaws.{props_are}
use Rattle.bodies.proofs.CommandRound.{Sendable, sendable-ascii, text-within, number-within, prop-within, object-within}

-- ---- the names: each can stand before a property, and none stands twice
abbrev has_name : List ℕ → List Field → Bool
has_name n [] = false
has_name n (f ∷ fs) = same f.name n || has_name n fs

abbrev proper : List Field → Bool
proper [] = true
proper (f ∷ fs) = (ltb 0 (length f.name) && ltb (length f.name) (2 ^ 16)) && (all_ascii f.name && (not (has_name f.name fs) && proper fs))

record Proper (f : Field) (fs : List Field) : Type 0 where
  some_bytes : 0 < length f.name
  few_bytes : length f.name < 2 ^ 16
  chars : all_ascii f.name ≡ true
  once : has_name f.name fs ≡ false
  others : proper fs ≡ true

proper_first : (f : Field) (fs : List Field) → proper (f ∷ fs) ≡ true → Proper f fs
proper_first f fs h =
    let a = and_parts _ _ h in
    let b = and_parts _ _ a.0 in
    let c = and_parts _ _ a.1 in
    let d = and_parts _ _ c.1 in
    record { some_bytes = ltb-true _ _ b.0; few_bytes = ltb-true _ _ b.1; chars = c.0; once = not-true _ d.0; others = d.1 }

names_proper : (s : List ℕ) (m : StreamMetadata) → proper (fields s m) ≡ true
unfolding same
names_proper s m = refl

-- ---- each name has its value
here : (n : List ℕ) (o : Option Value) (ps : Props) → lookup n ps ≡ None → lookup n (prop_if n o ps) ≡ o
unfolding lookup prop_if
here n None ps h = h
here n (Some v) ps h = rw (h, eq-same {a = n} refl)

there : (n k : List ℕ) (o : Option Value) (ps : Props) (w : Option Value) → same k n ≡ false → lookup n ps ≡ w → lookup n (prop_if k o ps) ≡ w
unfolding lookup prop_if
there n k None ps w e h = h
there n k (Some v) ps None e h = rw (h, e)
there n k (Some v) ps (Some w) e h = rw h

missing : (n : List ℕ) (fs : List Field) → has_name n fs ≡ false → lookup n (present fs) ≡ None
unfolding lookup prop_if
missing n [] h = refl
missing n (f ∷ fs) h =
    let e = or_parts (same f.name n) (has_name n fs) h in there n f.name f.value (present fs) None e.0 (missing n fs e.1)

other_name : (n : List ℕ) (f : Field) (fs : List Field) → has_name n fs ≡ false → Memᴰ f fs → same n f.name ≡ false
other_name n f [] h x'' = elim x'' [ ]
other_name n f (g ∷ fs) h (Memᴰ.head p) =
    ne_same n f.name (λ e. same-ne g.name n (or_parts (same g.name n) (has_name n fs) h).0 (ap (λ (x : Field). x.name) (sym p) ∙ sym e))
other_name n f (g ∷ fs) h (Memᴰ.tail m) = other_name n f fs (or_parts (same g.name n) (has_name n fs) h).1 m

found : (fs : List Field) → proper fs ≡ true → (f : Field) → Memᴰ f fs → lookup f.name (present fs) ≡ f.value
found [] h f x'' = elim x'' [ ]
found (g ∷ fs) h f (Memᴰ.head p) = rw p (here g.name g.value (present fs) (missing g.name fs (proper_first g fs h).once))
found (g ∷ fs) h f (Memᴰ.tail m) =
    let k = proper_first g fs h in
    there f.name g.name g.value (present fs) f.value (other_name g.name f fs k.once m) (found fs k.others f m)

pub field-round : (s : List ℕ) (m : StreamMetadata) (f : Field) → Memᴰ f (fields s m) → lookup f.name (metadata_props s m) ≡ f.value
field-round s m f h = rw (props_are s m) (found (fields s m) (names_proper s m) f h)

-- ---- the values are within the limits
abbrev ValueFits : Option Value → Type 0
ValueFits None = Unit {0}
ValueFits (Some v) = Within v 7

abbrev ValuesFit : List Field → Type 0
ValuesFit [] = Unit {0}
ValuesFit (f ∷ fs) = ValueFits f.value × ValuesFit fs

if-within : (n : List ℕ) (o : Option Value) (ps : Props) → 0 < length n → length n < 2 ^ 16 → all_ascii n ≡ true → ValueFits o → PropsWithin ps 7
    → PropsWithin (prop_if n o ps) 7
unfolding prop_if
if-within n None ps p l a v h = h
if-within n (Some v) ps p l a w h = prop-within n v ps p l a w h

present-within : (fs : List Field) → proper fs ≡ true → ValuesFit fs → PropsWithin (present fs) 7
unfolding Within
present-within [] h v = tt
present-within (f ∷ fs) h v =
    let k = proper_first f fs h in
    if-within f.name f.value (present fs) k.some_bytes k.few_bytes k.chars v.0 (present-within fs k.others v.1)

-- a rate is a single
abbrev pub RateFits : Option Float → Type 0
RateFits (Some x) = T (fits binary32 x)
RateFits None = Unit {0}

whole-fits : (v : Option ℕ) → ValueFits (option_map whole_value v)
whole-fits (Some n) = number-within n 7 (omega arith)
whole-fits None = tt

rate-fits : (v : Option Float) → RateFits v → ValueFits (option_map rate_value v)
unfolding Within
rate-fits (Some x) h = (omega arith, sent-lt x (fits_widens x h))
rate-fits None h = tt

flag-fits : (v : Option Bool) → ValueFits (option_map boolean v)
unfolding Within
flag-fits (Some b) = omega arith
flag-fits None = tt

text-fits : (s : List ℕ) (v : Option Span) → Sendable (stretch s v) → ValueFits (option_map (text_value s) v)
unfolding stretch
text-fits s (Some p) h = text-within 7 (omega arith) h
text-fits s None h = tt

module _ (s : List ℕ) (m : StreamMetadata) (r : RateFits m.video_frame_rate) (e : Sendable (stretch s m.encoder)) where
  values-fit : ValuesFit (fields s m)
  values-fit = (
    whole-fits m.video_width,
    (
      whole-fits m.video_height,
      (
        whole-fits m.video_codec_id,
        (
          rate-fits m.video_frame_rate r,
          (
            whole-fits m.video_bitrate_kbps,
            (
              whole-fits m.audio_codec_id,
              (
                whole-fits m.audio_bitrate_kbps,
                (
                  whole-fits m.audio_sample_rate,
                  (
                    whole-fits m.audio_channels,
                    (
                      flag-fits m.audio_is_stereo,
                      (
                        text-fits s m.encoder e,
                        tt,
                      ),
                    ),
                  ),
                ),
              ),
            ),
          ),
        ),
      ),
    ),
  )

  pub object-fits : Within (object (metadata_props s m)) 8
  object-fits = object-within (metadata_props s m) (rw (props_are s m) (present-within (fields s m) (names_proper s m) values-fit))

  metadata-within : ValuesWithin (metadata_values s m) 8
  unfolding ValuesWithin
  metadata-within = (
    text-within 8 (omega arith) (sendable-ascii (ascii "@setDataFrame") (omega arith) refl),
    (
      text-within 8 (omega arith) (sendable-ascii (ascii "onMetaData") (omega arith) refl),
      (object-fits, tt),
    ),
  )

  pub metadata-round : decode 18 (metadata_body s m)
      ≡ values (record { values = metadata_values s m; after_first = encode_values (cons (text (ascii "onMetaData")) (cons (object (metadata_props s m)) nil)) })
  unfolding decode data_of metadata_body
  metadata-round =
      rw (
        values-round (metadata_values s m) metadata-within,
        next_round (text (ascii "@setDataFrame")) (cons (text (ascii "onMetaData")) (cons (object (metadata_props s m)) nil))
            (text-within 8 (omega arith) (sendable-ascii (ascii "@setDataFrame") (omega arith) refl)),
      )
