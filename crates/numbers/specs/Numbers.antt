-- What the session makes of AMF0's Numbers, each a double by its bit pattern, in the terms of IEEE 754 (lib.Ieee).
-- Assumes nothing.
use Rattle.std.specs.Prelude.{ℕ, ◌*◌, pos, Float}
use Rattle.std.specs.Float.{nan, inf, fin, binary32, binary64}
use Rattle.std.specs.Float.Ieee.{up, down, round, of_bits, to_bits, of_int, to_unsigned}

-- "Cut to its whole part and held within 0 to 4,294,967,295; NaN gives 0": document 01, "The session's work", Reply. Metadata's whole fields go the same way.
abbrev pub held : ℕ → ℕ
held b = to_unsigned 32 (of_bits binary64 b)

-- The Number that is n, as a request's number is sent: marker 00 of document 01, "Bodies".
abbrev pub number_of : ℕ → ℕ
number_of n = to_bits binary64 (of_int binary64 (pos n))

-- The nearest single, a tie to the even one: document 01, "Bodies", on the frame rate. (`to_bits` gives a NaN 7fc00000, and as a double 7ff8000000000000.)
unfoldable pub narrowed : Float → Float
narrowed nan = nan
narrowed (inf s) = inf s
narrowed (fin s m e) = round binary32 s (m * up e) (down e)
