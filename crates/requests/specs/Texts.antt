-- Texts of at most 255 bytes: a caller's, and those that a record holds.
-- Assumes nothing.
use Rattle.std.specs.Prelude.{ℕ, Bool, ◌&&◌, List, ◌++◌, leb, length, take, replicate}
use Rattle.octets.specs.Utf8.{utf8}
use Rattle.requests.specs.declared.text.Text.{Text}

-- a caller's text that refusal 9 doesn't meet
unfoldable pub fits : List ℕ → Bool
fits t = leb (length t) 255 && utf8 t

-- the text that a record holds
unfoldable pub text_of : Text → List ℕ
text_of t = take t.len t.bytes

-- a stored text that opening accepts
unfoldable pub text_sound : Text → Bool
text_sound t = leb t.len 255 && utf8 (text_of t)

-- the record that holds t: its bytes and then zeros
unfoldable pub stored : List ℕ → Text
stored t = record { len = length t; bytes = take 255 (t ++ replicate 255 0) }
