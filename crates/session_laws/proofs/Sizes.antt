-- How large a session is: below 4 KiB.
-- Assumes nothing.
use mathlib.Core.Path.{◌≡◌, refl}
use prog.Memory.{size}
use Rattle.session.proofs.record.ClientSession.TheLaws as session

pub session-size : size session.mir ≡ 2840
session-size = refl
