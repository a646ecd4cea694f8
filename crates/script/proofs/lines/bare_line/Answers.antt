-- `script::lines::bare_line` meets its contract: an empty line, one with no clock, or the clock and a call.
-- Assumes nothing.
use Rattle.std.proofs.Common.{rules, ◌≡◌, Err, ap, sym, ◌∙◌}
use borrow.Author.Tests.{true-eqb, false-eqb}
use Rattle.script.specs.Lines.{number_of, rest, call_line}
use Rattle.script.proofs.ReadLaws.{no_line, line_is}
use Rattle.script.proofs.lines.bare_line.Goals as goal

pub returns-then-is_empty : goal.returns-then-is_empty
returns-then-is_empty c = no_line c.args.s.now (true-eqb _ _ (sym c.if-is_empty.true ∙ c.is_empty.ensures))

pub returns-in_err-number : goal.returns-in_err-number
returns-in_err-number c =
    let e : c.from_residual.result ≡ Err c.in_err-number.field-0.0 = search rules in
    let n = line_is c.args.s.now (false-eqb _ _ (sym c.if-is_empty.false ∙ c.is_empty.ensures)) in
    e ∙ sym (n ∙ rw (sym (c.in_err-number.ensures.value ∙ ap number_of c.new-fields.ensures)))

pub returns : goal.returns
returns c =
    let n = line_is c.args.s.now (false-eqb _ _ (sym c.if-is_empty.false ∙ c.is_empty.ensures)) in
    c.call_line.ensures ∙ ap (call_line _) (c.number.ensures.rest ∙ ap rest c.new-fields.ensures) ∙ sym (n ∙ rw (sym (c.in_ok-number.ensures.value ∙ ap number_of c.new-fields.ensures)))
