-- Writes of parts, one after the other, are a write of the value, of the properties or of the values that they make up. For `search`.
-- Assumes nothing.
use Prim.Native.Nat.{ℕ}
use mathlib.Core.List.{List, ◌++◌, append_assoc}
use Rattle.octets.specs.declared.output.Writer.{Writer}
use Rattle.octets.specs.Output.{Put}
use Rattle.octets.proofs.OutputLaws.{no-put, then}
use Rattle.amf0.specs.Value.{Value, object, Props, end, prop, Values, nil, cons}
use Rattle.amf0.specs.Encode.{text_bytes, encode, encode_props, encode_values, object_start, object_end}
use Rattle.amf0.proofs.EncodeLaws.{joined, encode-joined}

-- no value: nothing was written
pub nil-put : {o : Writer} → Put o (encode_values nil) o
unfolding encode
nil-put = no-put

pub cons-put : (v : Value) (vs : Values) {o m n : Writer}
    → Put o (encode v) m → Put m (encode_values vs) n → Put o (encode_values (cons v vs)) n
unfolding encode
cons-put v vs p q = then p q

pub object-put : (ps : Props) {o m n : Writer} → Put o object_start m → Put m (encode_props ps) n → Put o (encode (object ps)) n
unfolding encode
object-put ps p q = then p q

pub end-put : {o n : Writer} → Put o object_end n → Put o (encode_props end) n
unfolding encode
end-put p = p

pub prop-put : (name : List ℕ) (v : Value) (ps : Props) {o m n : Writer}
    → Put o (text_bytes name ++ encode v) m → Put m (encode_props ps) n → Put o (encode_props (prop name v ps)) n
unfolding encode
prop-put name v ps p q = rw (append_assoc (text_bytes name)) at (then p q)

-- values in two parts
pub joined-put : (a b : Values) {o m n : Writer}
    → Put o (encode_values a) m → Put m (encode_values b) n → Put o (encode_values (joined a b)) n
joined-put a b p q = rw (encode-joined a b) (then p q)

pub ruleset puts = (nil-put, cons-put, object-put, end-put, prop-put, then)
