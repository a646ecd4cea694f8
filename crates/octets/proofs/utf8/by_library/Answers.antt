-- `octets::utf8::by_library` meets its contract: the library's UTF-8 is that of the ABNF.
-- Assumes nothing.
use mathlib.Core.Path.{◌∙◌}
use Rattle.octets.proofs.Utf8Library.{told}
use Rattle.octets.proofs.utf8.by_library.Goals as goal

pub returns : goal.returns
returns c = c.is_ok.ensures.value ∙ told _ c.from_utf8.result _ _ c.from_utf8.ensures.cases
