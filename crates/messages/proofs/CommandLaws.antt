-- A command at a place of s, by what a reader takes there: what is missing, or where each part stands.
-- Assumes nothing.
use Prim.Native.Nat.{ℕ}
use mathlib.Core.Path.{◌≡◌, refl}
use mathlib.Core.Bool.{Bool, true, false, cond}
use mathlib.Core.List.{List, [], ◌∷◌}
use lib.Dec.{eqb}
use lib.ListN.{drop}
use Rattle.std.specs.Prelude.{Some, None, Result, Ok, Err}
use Rattle.octets.specs.Parse.{bad, got}
use Rattle.octets.specs.Compare.{part}
use Rattle.octets.specs.declared.span.Span.{Span}
use Rattle.amf0.specs.Value.{Value, number, Values}
use Rattle.amf0.specs.Decode.{all_values}
use Rattle.amf0.specs.Places.{text_told, malformed}
use Rattle.amf0.specs.declared.kinds.Kind.{Kind}
use Rattle.amf0.specs.declared.read.Malformed.{Malformed}
use Rattle.reader.proofs.TakenLaws.{ReadAt}
use Rattle.messages.specs.Incoming.{command, whole, text_only, number_only, command_of, after_zero}
use Rattle.messages.specs.Places.{name_of, first_of, placed}
use Rattle.messages.specs.Steps.{leading_zero}
use Rattle.messages.specs.declared.rtmp_message.RtmpMessage.{RtmpMessage}
use Rattle.messages.specs.declared.rtmp_message.RtmpMessage.TheVariants as message
use Rattle.messages.proofs.LeafLaws.{ValueRead, TextRead, number_told, text-there, number-there, none-there, value_there}

-- what there is to answer
abbrev pub answer : List ℕ → ℕ → Result RtmpMessage Malformed
answer s at = placed s (whole command (command_of (drop at s)))

module _ (s : List ℕ) (at : ℕ) {k0 : Result Kind Malformed} {n0 : ℕ} (i0 : ReadAt s at k0 n0) where
  pub no_name : None ≡ text_told k0 → Err malformed ≡ answer s at
  unfolding placed command_of
  no_name e = rw (text-there s at i0 None e)

  module _ (p : Span) (t : Some p ≡ text_told k0) {k1 : Result Kind Malformed} {n1 : ℕ} (i1 : ReadAt s n0 k1 n1) where
    name : TextRead s at n0 p.start p.len
    name = text-there s at i0 (Some p) t

    pub no_number : None ≡ number_told k1 → Err malformed ≡ answer s at
    unfolding placed command_of text_only
    no_number e = rw (name.value.read, number-there s n0 i1 None e)

    module _ (m : ℕ) (u : Some m ≡ number_told k1) {k2 : Result Kind Malformed} {n2 : ℕ} (i2 : ReadAt s n1 k2 n2) where
      number_is : ValueRead s n0 n1 (number m)
      number_is = number-there s n0 i1 (Some m) u

      pub no-object : {d : Malformed} → k2 ≡ Err d → Err malformed ≡ answer s at
      unfolding placed command_of text_only number_only
      no-object e = rw (name.value.read, number_is.read, none-there s n1 i2 e)

      module _ {k : Kind} (w : k2 ≡ Ok k) where
        object-is : (v : Value) × ValueRead s n1 n2 v
        object-is = value_there s n1 i2 w

        pub no-values : all_values (drop n2 s) ≡ bad → Err malformed ≡ answer s at
        unfolding placed command_of text_only number_only
        no-values e = rw (name.value.read, number_is.read, object-is.1.read, e)

        pub command-is : (vs : Values) → all_values (drop n2 s) ≡ got vs []
            → Ok (message.Amf0Command (record {
              name = name_of (part s p.start p.len);
              name_at = p;
              number = m;
              object = n1;
              args = n2;
              first = first_of vs;
            }))
            ≡ answer s at
        unfolding command_of text_only number_only placed
        command-is vs e =
            rw (name.value.read, number_is.read, object-is.1.read, e, name.is, name.starts, name.long, number_is.place, object-is.1.place)

-- where a command of type 17 starts
pub past-zero : (s : List ℕ) → drop (leading_zero s) s ≡ after_zero s
unfolding after_zero
past-zero [] = refl
past-zero (x ∷ s) = go (eqb x 0)
  where
    go : (b : Bool) → drop (cond b 1 0) (x ∷ s) ≡ cond b s (x ∷ s)
    go true = refl
    go false = refl
