-- `ClientSession::granted` meets its contract: no number, no space, or the session at the stage that was asked for.
-- Assumes nothing.
use Rattle.std.specs.Prelude.{Some}
use Rattle.std.proofs.Common.{[], refl, ap, arith}
use Rattle.session.specs.Record.{with_progress, with_requests}
use Rattle.session.proofs.StepLaws.{no_room, done-length, goes_short, goes_done}
use Rattle.session.proofs.MessageLaws.{closed_after}
use Rattle.session.proofs.ReplyLaws.{grant-long, granted-none, granted-number}
use Rattle.session.proofs.record.ClientSession.granted.Goals as goal

pub returns-in_default : goal.returns-in_default
returns-in_default c = λ b n e. granted-none _ b n _ _ c.in_default.is (closed_after (ap (with_requests c.args.self.now) e) refl)

pub returns-in_err-len : goal.returns-in_err-len
returns-in_err-len c =
    λ b n e.
    let s = c.args.self.now in
    granted-number _ b n _ _ c.in-Some.is e (goes_short (c.write_grant.ensures s c.args.clock b refl) c.in_err-len.was (no_room s c.from_residual.ensures.1))

pub grant_results-requires : goal.grant_results-requires
grant_results-requires c =
    let s = c.args.self.now in
    let clock = c.args.clock in
    let l = done-length (c.write_grant.ensures s clock [] refl) c.in_ok-len.was in
    omega (arith, grant-long s clock [] c.args.key.now c.in-Some.stream c.args.purpose)

pub returns : goal.returns
returns c =
    λ b n e.
    let s = c.args.self.now in
    let w = c.write_grant.ensures s c.args.clock b refl in
    let d = c.in_ok-len.was in
    granted-number _ b n _ _ c.in-Some.is e
    (goes_done w d (ap (λ g. with_progress (with_requests s c.args.rest) g (Some c.in-Some.stream)) c.requested_stage.ensures) (c.grant_results.ensures s b c.args.key.now (done-length w d)) refl)
