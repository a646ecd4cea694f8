-- `script::fields::bare` meets its contract: a carriage return at the end, or none.
-- Assumes nothing.
use Rattle.std.proofs.Common.{refl, ap, ◌∙◌}
use Rattle.script.proofs.FieldLaws.{bare_is}
use Rattle.script.proofs.fields.bare.Goals as goal

pub returns : goal.returns
returns c = ap (λ l. l.now) c.unwrap_or.ensures ∙ bare_is c.args.s.now c.args.s c.strip_suffix.result refl c.strip_suffix.ensures.cases
