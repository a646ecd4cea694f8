-- `script::lines::call_line` meets its contract: no field, no verb, or the verb's line.
-- Assumes nothing.
use Rattle.std.proofs.Common.{rules, ◌≡◌, ◌+◌, ◌-◌, length, Err, ◌∙◌, arith}
use Rattle.script.proofs.ReadLaws.{no_verb, verb_is}
use Rattle.script.proofs.lines.call_line.Goals as goal

pub returns-in_err-word : goal.returns-in_err-word
returns-in_err-word c =
    let e : c.from_residual.result ≡ Err c.in_err-word.field-0.0 = search rules in
    e ∙ no_verb _ _ c.in_err-word.ensures.word

pub returns-in_err-verb : goal.returns-in_err-verb
returns-in_err-verb c =
    let e : c.from_residual-in_err-verb.result ≡ Err c.in_err-verb.field-0.0 = search rules in
    let v = verb_is c.args.clock _ _ c.in_ok-word.ensures.word in
    e ∙ rw (← c.verb_of.ensures, ← c.in_err-verb.ensures.value) at v

pub returns : goal.returns
returns c =
    let n : c.word.new.self.next - 1 ≡ c.args.fields.now.next + length c.in_ok-word.field-0.now = omega (arith, c.in_ok-word.ensures.next) in
    let v = verb_is c.args.clock _ _ c.in_ok-word.ensures.word in
    let w = rw (← c.verb_of.ensures, ← c.in_ok-verb.ensures.value) at v in
    c.verb_line.ensures ∙ rw (n, c.word.ensures.rest) w
