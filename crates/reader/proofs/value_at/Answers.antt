-- `reader::value_at` meets its contract: no kind, no end, or both.
-- Assumes nothing.
use Rattle.std.proofs.Common.{◌∙◌}
use Rattle.std.specs.Prelude.{Err}
use Rattle.amf0.proofs.PlaceLaws.{err-is}
use Rattle.reader.proofs.EndLaws.{kind-told}
use Rattle.reader.proofs.TakenLaws.{none-taken, one-taken}
use Rattle.reader.proofs.value_at.Goals as goal

pub returns-in_err-kind : goal.returns-in_err-kind
returns-in_err-kind c =
    let a = c.args in
    err-is _ c.from_residual.ensures.0 ∙ none-taken a.s.now a.at (kind-told a.s.now a.at (Err _) c.in_err-kind.ensures)

pub returns-in_err-next : goal.returns-in_err-next
returns-in_err-next c = err-is _ c.from_residual-in_err-next.ensures.0 ∙ none-taken _ _ c.in_err-next.ensures

pub returns : goal.returns
returns c = one-taken _ _ _ _ c.in_ok-next.ensures c.in_ok-kind.ensures
