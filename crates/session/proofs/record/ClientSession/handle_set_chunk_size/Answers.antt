-- `ClientSession::handle_set_chunk_size` meets its contract: refusal 7, or the link with that chunk size.
-- Assumes nothing.
use Rattle.std.proofs.Common.{refl, arith, le-ltb, lt-ltb}
use Rattle.session.proofs.StepLaws.{order_hit, order_miss, order-end, quiet-goes}
use Rattle.session.proofs.record.ClientSession.handle_set_chunk_size.Goals as goal

pub returns-then-size-gt2147483647 : goal.returns-then-size-gt2147483647
returns-then-size-gt2147483647 c = λ clock b old. order_hit _ _ _ _ (lt-ltb 2147483647 c.args.size (omega arith)) refl

pub returns : goal.returns
returns c =
    λ clock b old.
    let h = le-ltb 2147483647 c.args.size (omega arith) in
    order_miss _ _ _ _ h (order-end _ (quiet-goes refl))
