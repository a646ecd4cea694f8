-- `ClientSession::is_plain` meets its contract: what it looks at makes a session (`plain-session`).
-- Assumes nothing.
use native.Mathlib.Omega.{arith}
use Rattle.std.proofs.lemmas.Grind.{common_steps}
use Rattle.std.proofs.Common.{sym, ◌∙◌}
use Rattle.session.proofs.PlainLaws.{plain-session}
use Rattle.session.proofs.record.ClientSession.is_plain.Goals as goal

pub returns-then-next_sound : goal.returns-then-next_sound
returns-then-next_sound c =
    λ h. plain-session c.args.self.now (grind (arith, common_steps)) (grind (arith, common_steps)) (grind (arith, common_steps)) (grind (arith, common_steps)) (sym c.all_free.ensures ∙ h)
