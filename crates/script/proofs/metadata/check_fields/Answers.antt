-- `script::metadata::check_fields` meets its contract: what is left has the answer of the whole.
-- Assumes nothing.
use Rattle.std.proofs.Common.{rules, ◌≡◌, Err, sym, ◌∙◌}
use Rattle.script.proofs.MetadataLaws.{check_more, check_end}
use Rattle.script.proofs.metadata.check_fields.Goals as goal

pub loop-word-preserved : goal.loop-word-preserved
loop-word-preserved c = (
  c.in-Ok.ensures.line ∙ c.loop-word.invariant.0,
  c.loop-word.invariant.1 ∙ check_more _ c.in-Ok.ensures.word ∙ rw (← c.in-Ok.ensures.rest, ← c.in_ok-check_field.ensures),
)

pub returns-in_err-check_field : goal.returns-in_err-check_field
returns-in_err-check_field c =
    let e : c.from_residual.result ≡ Err c.in_err-check_field.field-0.0 = search rules in
    e ∙ sym (c.loop-word.invariant.1 ∙ check_more _ c.in-Ok.ensures.word ∙ rw (← c.in_err-check_field.ensures))

pub returns : goal.returns
returns c = sym (c.loop-word.invariant.1 ∙ check_end _ c.in_default.ensures.word)
