-- What the steps of a reading answer: what the kind of a value tells, where an argument or a name is due, and where a command of type 17 starts.
-- Assumes nothing.
use Rattle.std.specs.Prelude.{ℕ, Bool, false, cond, List, [], ◌∷◌, eqb, Option, Some, None, Result, Ok, Err}
use Rattle.octets.specs.Compare.{ascii, same, part}
use Rattle.amf0.specs.declared.kinds.Kind.{Kind}
use Rattle.amf0.specs.declared.kinds.Kind.TheVariants as kind
use Rattle.amf0.specs.declared.read.Malformed.{Malformed}
use Rattle.messages.specs.declared.rtmp_message.Argument.{Argument}
use Rattle.messages.specs.declared.rtmp_message.Argument.TheVariants as argument

abbrev pub argument_kind : Kind → Argument
argument_kind (kind.Number b) = argument.Number b
argument_kind (kind.Boolean b) = argument.Other
argument_kind (kind.Text p) = argument.Other
argument_kind kind.Object = argument.Object
argument_kind kind.Null = argument.Other
argument_kind kind.Undefined = argument.Other
argument_kind kind.Array = argument.Other

-- among values that are well formed: no value is there where there is no kind
abbrev pub argument_told : Result Kind Malformed → Option Argument
argument_told (Ok k) = Some (argument_kind k)
argument_told (Err e) = None

-- whether that is the text `onMetaData` in s
abbrev pub names_meta_data : List ℕ → Result Kind Malformed → Bool
names_meta_data s (Ok (kind.Text p)) = same (part s p.start p.len) (ascii "onMetaData")
names_meta_data s (Ok (kind.Number b)) = false
names_meta_data s (Ok (kind.Boolean b)) = false
names_meta_data s (Ok kind.Object) = false
names_meta_data s (Ok kind.Null) = false
names_meta_data s (Ok kind.Undefined) = false
names_meta_data s (Ok kind.Array) = false
names_meta_data s (Err e) = false

-- how many bytes of a type 17 body stand before its command
abbrev pub leading_zero : List ℕ → ℕ
leading_zero [] = 0
leading_zero (x ∷ s) = cond (eqb x 0) 1 0
