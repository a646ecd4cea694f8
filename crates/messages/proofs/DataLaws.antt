-- The values of a data message: malformed, or what the first two say.
-- Assumes nothing.
use Prim.Native.Nat.{ℕ}
use native.Mathlib.Omega.{arith}
use mathlib.Core.Path.{◌≡◌, refl, ap}
use mathlib.Core.Bool.{cond}
use mathlib.Core.List.{List}
use lib.ListN.{drop}
use Rattle.std.specs.Prelude.{Result, Ok, Err}
use Rattle.octets.specs.Parse.{bad, got, place_of}
use Rattle.amf0.specs.Value.{Value, number, boolean, text, object, null, undefined, strict, Values, nil, cons}
use Rattle.amf0.specs.Decode.{top_value, all_values}
use Rattle.amf0.specs.Places.{kind_of, malformed}
use Rattle.amf0.specs.declared.kinds.Kind.{Kind}
use Rattle.amf0.specs.declared.read.Malformed.{Malformed}
use Rattle.amf0.proofs.CutLaws.{clash, cuts-value, cuts_short}
use Rattle.amf0.proofs.KindLaws.{text-lies}
use Rattle.reader.proofs.TakenLaws.{ReadAt}
use Rattle.reader.proofs.TakenLaws as taken
use Rattle.messages.specs.Incoming.{values, whole, rest_of, data_of}
use Rattle.messages.specs.Places.{if_object, is_on_meta_data, data_at, placed}
use Rattle.messages.specs.Steps.{argument_told, names_meta_data}
use Rattle.messages.specs.declared.rtmp_message.DataMessage.{DataMessage}
use Rattle.messages.specs.declared.rtmp_message.DataMessage.TheVariants as said
use Rattle.messages.specs.declared.rtmp_message.RtmpMessage.TheVariants as message
use Rattle.messages.proofs.ValuesLaws.{Ended, none, some, at-end, first_taken, AllRead}

-- what a first value and a second one say, of which the second stands at n
abbrev pub said_by : List ℕ → Result Kind Malformed → ℕ → Result Kind Malformed → DataMessage
said_by s k n j = cond (names_meta_data s k) (if_object n (argument_told j)) said.Other

module _ (s : List ℕ) where
  -- the first value names metadata where its kind tells the text
  name_told : (v : Value) (r : List ℕ) → top_value s ≡ got v r → names_meta_data s (Ok (kind_of s v r)) ≡ is_on_meta_data v
  unfolding kind_of
  name_told (number n) r e = refl
  name_told (boolean b) r e = refl
  name_told (text t) r e = rw (text-lies 7 s 0 e)
  name_told (object ps) r e = refl
  name_told null r e = refl
  name_told undefined r e = refl
  name_told (strict vs) r e = refl

  said-is : {k j : Result Kind Malformed} {n m : ℕ} → ReadAt s 0 k n → ReadAt s n j m → (vs : Values) → Ended top_value s vs
      → said_by s k n j ≡ data_at (place_of s (rest_of (top_value s))) vs
  unfolding data_at
  said-is (taken.none e) i nil (none l) = refl
  said-is (taken.none e) i (cons v vs) (some k g f) = clash (cc)
  said-is (taken.one w r e p l) i nil (none z) = let b = cuts_short (top_value s) (cuts-value 8 s) (omega arith) in clash (cc)
  said-is (taken.one w r e p l) i (cons v vs) (some {r = x} k g f) =
      let q : w ≡ v = cc in
      let y : x ≡ r = cc in
      let a : Ended top_value (drop (place_of s r) s) vs = rw (← p, ← y) (at-end top_value k x f).ended in
      rw (name_told w r e, q, e, first_taken s (place_of s r) i vs a)

  pub no_data : all_values s ≡ bad → Err malformed ≡ placed s (whole values (data_of s))
  unfolding placed data_of
  no_data e = rw e

  pub data-is : (a : AllRead s) {k j : Result Kind Malformed} {n m : ℕ} → ReadAt s 0 k n → ReadAt s n j m
      → Ok (message.Amf0Data (said_by s k n j)) ≡ placed s (whole values (data_of s))
  unfolding placed data_of
  data-is a i o = rw a.read (ap (λ (x : DataMessage). Ok (message.Amf0Data x)) (said-is i o a.all a.ended))
