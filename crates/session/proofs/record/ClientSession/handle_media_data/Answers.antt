-- `ClientSession::handle_media_data` meets its contract: the stage, then the stream.
-- Assumes nothing.
use mathlib.Core.Bool.{not}
use mathlib.Core.Path.{ap}
use Rattle.std.proofs.Common.{refl}
use Rattle.session.proofs.StepLaws.{order_hit, order_miss, order-end, not-said}
use Rattle.session.proofs.record.ClientSession.handle_media_data.Goals as goal

pub returns-then-not-is_play : goal.returns-then-not-is_play
returns-then-not-is_play c = λ clock b old. order_hit _ _ _ _ (not-said c.is_play.ensures (ap not c.if-not-is_play.true)) refl

pub returns : goal.returns
returns c =
    λ clock b old.
    order_miss _ _ _ _ (not-said c.is_play.ensures (ap not c.if-not-is_play.false)) (order-end _ (c.if_active.ensures clock b old))
