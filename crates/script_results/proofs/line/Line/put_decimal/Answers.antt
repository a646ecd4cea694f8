-- `script_results::line::Line::put_decimal` meets its contract: the digits that `io::decimal` spells, copied.
-- Assumes nothing.
use mathlib.Core.Path.{◌∙◌}
use native.Mathlib.Omega.{arith}
use Rattle.script_results.proofs.DecimalLaws.{shown-is}
use Rattle.script_results.proofs.line.Line.put_decimal.Goals as goal

pub returns-clause-put : goal.returns-clause-put
returns-clause-put c =
    let d = c.decimal-k.ensures in
    rw (d.digits ∙ shown-is _ _ (omega arith) d.len) at c.put_bytes.ensures
