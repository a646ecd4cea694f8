-- What a reader takes from the body s: the kind of a value, and the place after it.
-- Assumes nothing.
use Rattle.std.specs.Prelude.{ℕ, List, drop, Result, Ok, Err}
use Rattle.octets.specs.Parse.{Parse, bad, got, place_of}
use Rattle.amf0.specs.Value.{Value}
use Rattle.amf0.specs.Decode.{top_value}
use Rattle.amf0.specs.Places.{kind_of, malformed}
use Rattle.amf0.specs.declared.kinds.Kind.{Kind}
use Rattle.amf0.specs.declared.read.Malformed.{Malformed}
use Rattle.reader.specs.declared.Taken.{Taken}

unfoldable pub taken_from : List ℕ → Parse Value → Result Taken Malformed
taken_from s bad = Err malformed
taken_from s (got v r) = Ok (record { kind = kind_of s v r; next = place_of s r })

-- the value at a place
unfoldable pub taken : List ℕ → ℕ → Result Taken Malformed
taken s at = taken_from s (top_value (drop at s))

abbrev pub kind_taken : Result Taken Malformed → Result Kind Malformed
kind_taken (Ok t) = Ok t.kind
kind_taken (Err e) = Err e

-- where the value that follows starts: the place stays where there was none
abbrev pub next_taken : ℕ → Result Taken Malformed → ℕ
next_taken at (Ok t) = t.next
next_taken at (Err e) = at
