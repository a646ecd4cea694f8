-- A record that is plainly a session: its flash version's text is short and ASCII, it has no tcUrl, and no request is open.
-- Assumes nothing.
use Rattle.std.specs.Prelude.{is_some, Option, None, Some}
use Rattle.std.specs.List.{list_all}
use mathlib.Core.Bool.{false≢true}
use Rattle.std.proofs.Common.{◌≡◌, ℕ, zero, suc, ◌≤◌, true, false, ltb, List, [], ◌∷◌, take, refl, sym, arith, le-leb}
use Rattle.octets.proofs.Utf8Laws.{all_ascii, utf8-ascii}
use Rattle.requests.specs.Places.{all_free}
use Rattle.requests.specs.Table.{next_sound, requests_sound}
use Rattle.requests.specs.Texts.{text_of, text_sound}
use Rattle.requests.specs.declared.text.Text.{Text}
use Rattle.requests.proofs.BoolLaws.{and_left, and_right}
use Rattle.requests.proofs.PlaceLaws.{free_places}
use Rattle.session.specs.Record.{url_sound, texts_sound, is_session}
use Rattle.session.specs.declared.record.ClientSession.{ClientSession}

ascii-prefix : (n m : ℕ) (xs : List ℕ) → n ≤ m → all_ascii (take m xs) ≡ true → all_ascii (take n xs) ≡ true
ascii-prefix zero m xs l e = refl
ascii-prefix (suc n) zero xs l e = absurd (omega arith)
ascii-prefix (suc n) (suc m) [] l e = refl
ascii-prefix (suc n) (suc m) (x ∷ xs) l e =
    rw (and_left (ltb x 0x80) _ e, ascii-prefix n m xs (omega arith) (and_right (ltb x 0x80) _ e))

pub short-sound : (t : Text) → t.len ≤ 16 → all_ascii (take 16 t.bytes) ≡ true → text_sound t ≡ true
unfolding text_sound text_of
short-sound t l e = rw (le-leb t.len 255 (omega arith), utf8-ascii _ (ascii-prefix t.len 16 t.bytes l e))

none-sound : (o : Option Text) → is_some o ≡ false → url_sound o ≡ true
none-sound None e = refl
none-sound (Some t) e = absurd (false≢true (sym e))

-- `iter().all` over the bytes
pub all-ascii : (s : List ℕ) → list_all (λ b. ltb b 0x80) s ≡ true → all_ascii s ≡ true
all-ascii [] e = refl
all-ascii (x ∷ s) e = rw (and_left (ltb x 0x80) _ e, all-ascii s (and_right (ltb x 0x80) _ e))

pub plain-session : (s : ClientSession) → is_some s.config.tc_url ≡ false → s.config.chunk_size ≤ 2147483647 → text_sound s.config.flash_version ≡ true
    → next_sound s.requests ≡ true → all_free s.requests.places ≡ true → is_session s ≡ true
unfolding is_session texts_sound requests_sound
plain-session s u k f n a =
    rw (f, none-sound s.config.tc_url u, le-leb s.config.chunk_size 2147483647 k, n, free_places s.requests.next s.requests.places a)
