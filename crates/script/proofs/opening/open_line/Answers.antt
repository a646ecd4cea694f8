-- `script::opening::open_line` meets its contract: no field, or the settings.
-- Assumes nothing.
use Rattle.std.proofs.Common.{rules, ◌≡◌, Err, sym, ◌∙◌}
use Rattle.script.proofs.ReadLaws.{no_settings, settings_are}
use Rattle.script.proofs.opening.open_line.Goals as goal

pub returns-in_default : goal.returns-in_default
returns-in_default c = no_settings _ (sym c.text.ensures.value ∙ c.in_default.is)

pub returns-in_err-settings : goal.returns-in_err-settings
returns-in_err-settings c =
    let e : c.from_residual.result ≡ Err c.in_err-settings.field-0.0 = search rules in
    e ∙ sym (settings_are _ (sym c.text.ensures.value ∙ c.in-Ok.is) ∙ rw (← c.text.ensures.rest, ← c.in_err-settings.ensures))

pub returns : goal.returns
returns c = sym (settings_are _ (sym c.text.ensures.value ∙ c.in-Ok.is) ∙ rw (← c.text.ensures.rest, ← c.in_ok-settings.ensures))
