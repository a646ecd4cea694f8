-- `amf0::marker::marker_at` meets its contract, by the byte there.
-- Assumes nothing.
use Rattle.std.proofs.Common.{◌∙◌}
use Rattle.amf0.proofs.PlaceLaws.{err-is, marker-outcome, no-marker}
use Rattle.amf0.proofs.marker.marker_at.Goals as goal

pub returns-in_err-byte : goal.returns-in_err-byte
returns-in_err-byte c = err-is _ c.from_residual.ensures.0 ∙ no-marker _ c.in_err-byte.ensures

pub returns : goal.returns
returns c = c.try_from.ensures ∙ marker-outcome _ c.in_ok-byte.ensures
