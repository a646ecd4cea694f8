-- `script::fields::Fields::word` meets its contract: the line's end, or a field more.
-- Assumes nothing.
use Rattle.std.proofs.Common.{◌≡◌, Ok, drop, take, arith, ap, sym, ◌∙◌}
use Rattle.std.proofs.lemmas.Grind.{common_steps}
use Rattle.script.specs.Fields.{until}
use Rattle.script.proofs.ReadLaws.{no_word, no_rest, word_is, rest_is}
use Rattle.script.proofs.fields.Fields.word.Goals as goal

pub returns-in_default-clause-word : goal.returns-in_default-clause-word
returns-in_default-clause-word c = no_word c.args.self.now.line.now c.args.self.now.next (omega (arith, c.in_default.ensures.lookup.0))

pub returns-in_default-clause-rest : goal.returns-in_default-clause-rest
returns-in_default-clause-rest c = no_rest c.args.self.now.line.now c.args.self.now.next (omega (arith, c.in_default.ensures.lookup.0))

pub returns-clause-word : goal.returns-clause-word
returns-clause-word c =
    let e : c.in-Some.rest.now ≡ drop c.args.self.now.next c.args.self.now.line.now = grind (arith, common_steps, c.in-Some.ensures.lookup) in
    word_is c.args.self.now.line.now c.args.self.now.next c.until-len.result c.in-Some.ensures.lookup.0.0 (c.until-len.ensures.value ∙ ap (until 9) e) ∙ ap (λ l. Ok (take c.until-len.result l)) (sym e)

pub returns-clause-rest : goal.returns-clause-rest
returns-clause-rest c =
    let e : c.in-Some.rest.now ≡ drop c.args.self.now.next c.args.self.now.line.now = grind (arith, common_steps, c.in-Some.ensures.lookup) in
    rest_is c.args.self.now.line.now c.args.self.now.next c.until-len.result c.in-Some.ensures.lookup.0.0 (c.until-len.ensures.value ∙ ap (until 9) e)
