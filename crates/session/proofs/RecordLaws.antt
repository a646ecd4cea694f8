-- A test that failed, and what the settings' texts are in a session: short enough to be sent.
-- Assumes nothing.
use Rattle.std.specs.Prelude.{Some}
use Rattle.std.proofs.Common.{◌≡◌, ℕ, ◌^◌, ◌<◌, Bool, true, false, not, List, length, arith}
use borrow.Author.Tests.{not-true}
use Rattle.requests.proofs.BoolLaws.{and_left, and_right}
use Rattle.requests.proofs.TextLaws.{text-sound}
use Rattle.requests.specs.Texts.{text_of, text_sound}
use Rattle.requests.specs.declared.text.Text.{Text}
use Rattle.session.specs.Record.{url_sound as url_sound_of, texts_sound}
use Rattle.session.specs.declared.config.ClientSessionConfig.{ClientSessionConfig}

-- a test that a function made: its result t, what its contract says, and the branch where it failed
pub not-held : {t b : Bool} → t ≡ b → not t ≡ true → b ≡ false
not-held {t} e h = rw (← e) (not-true t h)

module _ (c : ClientSessionConfig) (e : texts_sound c ≡ true) where
  pub flash-sound : text_sound c.flash_version ≡ true
  unfolding texts_sound
  flash-sound = and_left _ _ e

  -- the tcUrl where one is configured
  pub url-sound : {t : Text} → c.tc_url ≡ Some t → text_sound t ≡ true
  unfolding texts_sound
  url-sound h = let k = and_right (text_sound c.flash_version) (url_sound_of c.tc_url) e in rw h at k

-- a body may hold a sound text
pub sound-short : (t : Text) → text_sound t ≡ true → {s : List ℕ} → s ≡ text_of t → length s < 2 ^ 16
sound-short t e f = let h = (text-sound t e).1 in rw f (omega arith)
