-- Metadata is its fields that are present, one after the other: as properties, as bytes, and how many bytes.
-- Assumes nothing.
use Prim.Native.Nat.{ℕ, ◌+◌}
use native.Mathlib.Omega.{arith}
use mathlib.Core.Path.{◌≡◌, refl, sym}
use mathlib.Core.List.{List, [], ◌++◌, append_assoc, append-nil}
use lib.ListN.{length, length-append}
use Rattle.std.specs.Prelude.{Option, Some, None, Bool, Float}
use Rattle.std.specs.Option.{option_map}
use Rattle.octets.specs.Compare.{ascii, part}
use Rattle.octets.specs.declared.output.Writer.{Writer}
use Rattle.octets.specs.Output.{Put}
use Rattle.octets.proofs.OutputLaws.{then}
use Rattle.amf0.specs.Value.{Value, boolean, text, object, Props, end, Values, nil, cons}
use Rattle.amf0.specs.Encode.{text_bytes, encode, encode_props, encode_values, object_start, object_end}
use Rattle.amf0.specs.Places.{stretch}
use Rattle.octets.specs.declared.span.Span.{Span}
use Rattle.amf0.proofs.EncodeLaws.{lengths}
use Rattle.messages.specs.declared.stream_metadata.StreamMetadata.{StreamMetadata}
use Rattle.bodies.specs.MetadataBody.{whole_prop, rate_prop, flag_prop, text_prop, metadata_props, metadata_body}
use Rattle.bodies.specs.Fields.{whole_value, rate_value, text_value, video_fields, rate_fields, last_fields, fields, field_bytes, fields_bytes, prop_if, present}
use Rattle.bodies.specs.Sizes.{size_if, video_size, rate_size, last_size}
use Rattle.octets.specs.Span.{span}

-- ---- as properties
whole-prop : (name : List ℕ) (v : Option ℕ) (ps : Props) → whole_prop name v ps ≡ prop_if name (option_map whole_value v) ps
unfolding whole_prop prop_if
whole-prop name (Some n) ps = refl
whole-prop name None ps = refl

rate-prop : (name : List ℕ) (v : Option Float) (ps : Props) → rate_prop name v ps ≡ prop_if name (option_map rate_value v) ps
unfolding rate_prop prop_if
rate-prop name (Some x) ps = refl
rate-prop name None ps = refl

flag-prop : (name : List ℕ) (v : Option Bool) (ps : Props) → flag_prop name v ps ≡ prop_if name (option_map boolean v) ps
unfolding flag_prop prop_if
flag-prop name (Some b) ps = refl
flag-prop name None ps = refl

text-prop : (s name : List ℕ) (v : Option Span) (ps : Props) → text_prop s name v ps ≡ prop_if name (option_map (text_value s) v) ps
unfolding text_prop prop_if
text-prop s name (Some p) ps = refl
text-prop s name None ps = refl

pub props_are : (s : List ℕ) (m : StreamMetadata) → metadata_props s m ≡ present (fields s m)
unfolding metadata_props
props_are s m = simp (whole-prop, rate-prop, flag-prop, text-prop)

-- ---- as bytes
bytes-if : (name : List ℕ) (v : Option Value) (ps : Props) → encode_props (prop_if name v ps) ≡ field_bytes name v ++ encode_props ps
unfolding prop_if field_bytes encode
bytes-if name None ps = refl
bytes-if name (Some v) ps = sym (append_assoc (text_bytes name) (encode v) (encode_props ps))

bytes-end : encode_props end ≡ object_end
unfolding encode
bytes-end = refl

bytes-object : (ps : Props) → encode (object ps) ≡ object_start ++ encode_props ps
unfolding encode
bytes-object ps = refl

bytes-nil : encode_values nil ≡ []
unfolding encode
bytes-nil = refl

bytes-cons : (v : Value) (vs : Values) → encode_values (cons v vs) ≡ encode v ++ encode_values vs
unfolding encode
bytes-cons v vs = refl

-- what stands before the fields
abbrev names : List ℕ
names = encode (text (ascii "@setDataFrame")) ++ (encode (text (ascii "onMetaData")) ++ object_start)

body_is : (s : List ℕ) (m : StreamMetadata)
    → metadata_body s m ≡ names ++ (fields_bytes (video_fields m) ++ (fields_bytes (rate_fields m) ++ (fields_bytes (last_fields s m) ++ object_end)))
unfolding metadata_body
body_is s m = simp (props_are, bytes-cons, bytes-nil, bytes-object, bytes-if, bytes-end, append_assoc, append-nil)

-- the last of several
pub end-put : {o n : Writer} {b : List ℕ} → Put o b n → Put o (b ++ []) n
end-put {b = b} p = rw append-nil p

pub metadata-put : (s : List ℕ) (m : StreamMetadata) {o p q t u : Writer}
    → Put o names p
    → Put p (fields_bytes (video_fields m)) q
    → Put q (fields_bytes (rate_fields m)) t
    → Put t (fields_bytes (last_fields s m) ++ object_end) u
    → Put o (metadata_body s m) u
metadata-put s m h i j k = rw body_is (then h (then i (then j k)))

-- ---- how many bytes
pub stretch-at : (s : List ℕ) {v : (Option Span)} {start len : ℕ} → v ≡ Some (span start len) → stretch s v ≡ part s start len
unfolding stretch
stretch-at s e = rw e

-- a field whose value takes k bytes with the 2 that say how long its name is
length-field : {A : Type 0} (value : A → Value) (k : ℕ) → ((x : A) → 2 + length (encode (value x)) ≡ k) → (name : List ℕ) (v : Option A)
    → length (field_bytes name (option_map value v)) ≡ size_if v (length name + k)
unfolding field_bytes
length-field value k h name (Some x) = let e = h x in simp (length-append, lengths) (omega arith)
length-field value k h name None = refl

length-encoder : (s name : List ℕ) (v : Option Span) → length (field_bytes name (option_map (text_value s) v)) ≡ size_if v (length (stretch s v) + (length name + 5))
unfolding field_bytes stretch
length-encoder s name (Some p) = simp (length-append, lengths) (omega arith)
length-encoder s name None = refl

pub length-metadata : (s : List ℕ) (m : StreamMetadata) → length (metadata_body s m) ≡ 30 + video_size m + rate_size m + last_size s m
length-metadata s m =
    let whole = length-field whole_value 11 (λ n. simp lengths) in
    let rate = length-field rate_value 11 (λ x. simp lengths) in
    let flag = length-field boolean 4 (λ b. simp lengths) in
    rw body_is (simp (length-append, lengths, whole, rate, flag, length-encoder) (omega arith))
