-- `script_run::media::decode` meets its contract: by what the decoder answers.
-- Assumes nothing.
use Rattle.std.proofs.Common.{rules, ◌≡◌, Ok, Err, sym, ap, ◌∙◌}
use Rattle.octets.specs.Compare.{part}
use Rattle.script.specs.Hex.{why_of}
use Rattle.script_run.proofs.RunLaws.{decoded, not_decoded}
use Rattle.script_run.proofs.media.decode.Goals as goal

pub returns-in_err-n : goal.returns-in_err-n
returns-in_err-n c =
    let e : c.from_residual.result ≡ Err (why_of c.in_err-n.field-0.0) = search rules in
    rw e (not_decoded _ _ (sym c.in_err-n.ensures.value))

pub returns : goal.returns
returns c =
    decoded _ _ (sym c.in_ok-n.ensures.value)
    ∙ ap Ok (sym (c.part.ensures ∙ ap (λ x. part x 0 c.in_ok-n.n) c.unhex.ensures.out_after))
