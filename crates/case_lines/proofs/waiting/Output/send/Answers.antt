-- What `send` takes from what waits has gone out, and nothing else.
use Rattle.std.proofs.Common.{◌-◌, ◌++◌, arith, sym, ap, take, ◌∙◌}
use Rattle.std.proofs.KnownBytes.{append_known-moved}
use Rattle.std.proofs.lemmas.List.{length-take-le}
use Rattle.case_lines.proofs.Sent.{moved}
use Rattle.case_lines.proofs.waiting.Output.send.Goals as goal

pub returns-clause-bytes : goal.returns-clause-bytes
returns-clause-bytes g c =
    let w = c.args.self.now in
    let n = c.in_ok-sent.sent in
    append_known-moved _ _ _ _ _ c.in_ok-sent.ensures.bytes (moved w.bytes w.used n (omega arith) (omega (arith, c.in_ok-sent.ensures.bound, length-take-le w.used w.bytes (omega arith))) ∙ ap (λ xs. take n (take w.used w.bytes) ++ take (w.used - n) xs) (sym c.copy_within.ensures.after))
