-- What stands before a property's value, and the property with its value, by places in the slice s that the reading began in.
-- Assumes nothing.
use Rattle.std.specs.Prelude.{ℕ, ◌+◌, ◌-◌, List, length, drop, Option, Some, None, Result, Ok, Err}
use Rattle.octets.specs.Parse.{Parse, bad, got, place_of}
use Rattle.amf0.specs.Decode.{Name, last, named, value}
use Rattle.octets.specs.Span.{span}
use Rattle.octets.specs.declared.span.Span.{Span}
use Rattle.amf0.specs.Places.{malformed, end_of}
use Rattle.amf0.specs.declared.names.Named.{Named}
use Rattle.amf0.specs.declared.names.Named.TheVariants.{End, At}
use Rattle.amf0.specs.declared.properties.Property.{Property}
use Rattle.amf0.specs.declared.read.Malformed.{Malformed}

-- the object's end with the place after it, or a name, which lies right before what is left
unfoldable pub named_of : List ℕ → Parse Name → Result Named Malformed
named_of s bad = Err malformed
named_of s (got last r) = Ok (End (place_of s r))
named_of s (got (named n) r) = Ok (At (span (place_of s r - length n) (length n)))

-- a name and where the value right behind it ends
abbrev pub with_value : Span → Result ℕ Malformed → Result (Option Property) Malformed
with_value p (Ok e) = Ok (Some (record { name = p; next = e }))
with_value p (Err e) = Err e

-- the object's end, or a property, by what stands before its value
unfoldable pub property_of : List ℕ → Result Named Malformed → Result (Option Property) Malformed
property_of s (Ok (End e)) = Ok None
property_of s (Ok (At p)) = with_value p (end_of s (value 7 (drop (p.start + p.len) s)))
property_of s (Err e) = Err e
