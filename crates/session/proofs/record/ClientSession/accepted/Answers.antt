-- `ClientSession::accepted` meets its contract: no space, or the session connected.
-- Assumes nothing.
use Rattle.std.proofs.Common.{refl}
use Rattle.session.proofs.StepLaws.{no_room}
use Rattle.session.proofs.ReplyLaws.{accept_short, accept_done}
use Rattle.session.proofs.record.ClientSession.accepted.Goals as goal

pub returns-in_err-write_sizes : goal.returns-in_err-write_sizes
returns-in_err-write_sizes c = λ b n e. accept_short _ b n c.write_sizes.ensures c.in_err-write_sizes.was (no_room c.args.self.now c.from_residual.ensures.1)

pub returns : goal.returns
returns c = λ b n e. accept_done _ b n c.write_sizes.ensures c.in_ok-write_sizes.was e c.accepted_results.ensures refl
