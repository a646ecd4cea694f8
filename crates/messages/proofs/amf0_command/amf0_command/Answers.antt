-- `messages::amf0_command::amf0_command` meets its contract: part by part, up to the first that is missing.
-- Assumes nothing.
use Rattle.std.proofs.Common.{◌≡◌, ℕ, List, Bor, rules, refl, sym, ap, ◌∙◌}
use Rattle.std.specs.Prelude.{Some, Ok}
use Rattle.amf0.specs.Places.{text_told}
use Rattle.amf0.proofs.PlaceLaws.{err-is, ok-or-some, ok-or-none}
use Rattle.reader.proofs.TakenLaws.{ReadAt, read_at}
use Rattle.messages.proofs.LeafLaws.{number_told}
use Rattle.messages.proofs.ValuesLaws.{all_there, first_told}
use Rattle.messages.proofs.CommandLaws.{no_name, no_number, no-object, no-values, command-is}
use Rattle.messages.proofs.amf0_command.amf0_command.Goals as goal
use Rattle.messages.proofs.amf0_command.amf0_command.Goals.{After-read_value, In_ok-name_at, After-read_value-2, In_ok-number, After-read_value-3}

-- the three values that are read
abbrev bytes : Bor (List ℕ) → List ℕ
bytes b = b.now

first : (c : After-read_value) → ReadAt c.args.body.now c.args.at c.read_value.result c.read_value.new.self.at
first c =
    read_at c.args.body.now c.args.at (ap bytes c.new-reader.ensures.0) c.new-reader.ensures.1 c.read_value.ensures.kind c.read_value.ensures.at

second : (c : After-read_value-2) → ReadAt c.args.body.now c.read_value.new.self.at c.read_value-2.result c.read_value-2.new.self.at
second c =
    read_at c.args.body.now _ (ap bytes (c.read_value.ensures.src ∙ c.new-reader.ensures.0)) refl c.read_value-2.ensures.kind c.read_value-2.ensures.at

third : (c : After-read_value-3) → ReadAt c.args.body.now c.read_value-2.new.self.at c.read_value-3.result c.read_value-3.new.self.at
third c =
    read_at c.args.body.now _ (ap bytes (c.read_value-2.ensures.src ∙ c.read_value.ensures.src ∙ c.new-reader.ensures.0)) refl
    c.read_value-3.ensures.kind c.read_value-3.ensures.at

-- what the first and the second tell
name-told : (c : In_ok-name_at) → Some c.in_ok-name_at.name_at ≡ text_told c.read_value.result
name-told c = ok-or-some _ c.in_ok-name_at.ensures.value ∙ c.text.ensures ∙ sym (ap text_told c.in_ok-read_value.was)

number-told : (c : In_ok-number) → Some c.in_ok-number.number ≡ number_told c.read_value-2.result
number-told c = ok-or-some _ c.in_ok-number.ensures.value ∙ c.number.ensures ∙ sym (ap number_told c.in_ok-read_value-2.was)

pub returns-in_err-read_value : goal.returns-in_err-read_value
returns-in_err-read_value c =
    err-is _ c.from_residual.ensures.0 ∙ no_name _ _ (first (goal.at.returns-in_err-read_value c).After-read_value) (sym (ap text_told c.in_err-read_value.was))

pub returns-in_err-name_at : goal.returns-in_err-name_at
returns-in_err-name_at c =
    err-is _ c.from_residual-in_err-name_at.ensures.0
    ∙ no_name _ _ (first (goal.at.returns-in_err-name_at c).After-read_value)
    (ok-or-none _ c.in_err-name_at.ensures.value ∙ c.text.ensures ∙ sym (ap text_told c.in_ok-read_value.was))

pub returns-in_err-read_value-2 : goal.returns-in_err-read_value-2
returns-in_err-read_value-2 c =
    let b = goal.at.returns-in_err-read_value-2 c in
    err-is _ c.from_residual-in_err-read_value-2.ensures.0
    ∙ no_number _ _ (first b.After-read_value) _ (name-told b.In_ok-name_at) (second b.After-read_value-2) (sym (ap number_told c.in_err-read_value-2.was))

pub returns-in_err-number : goal.returns-in_err-number
returns-in_err-number c =
    let b = goal.at.returns-in_err-number c in
    err-is _ c.from_residual-in_err-number.ensures.0
    ∙ no_number _ _ (first b.After-read_value) _ (name-told b.In_ok-name_at) (second b.After-read_value-2)
    (ok-or-none _ c.in_err-number.ensures.value ∙ c.number.ensures ∙ sym (ap number_told c.in_ok-read_value-2.was))

pub returns-in_err-read_value-3 : goal.returns-in_err-read_value-3
returns-in_err-read_value-3 c =
    let b = goal.at.returns-in_err-read_value-3 c in
    err-is _ c.from_residual-in_err-read_value-3.ensures.0
    ∙ no-object _ _ (first b.After-read_value) _ (name-told b.In_ok-name_at) (second b.After-read_value-2) _ (number-told b.In_ok-number)
    (third b.After-read_value-3) (search rules)

pub returns-in_err-count_values : goal.returns-in_err-count_values
returns-in_err-count_values c =
    let b = goal.at.returns-in_err-count_values c in
    let w : c.read_value-3.result ≡ Ok c.in_ok-read_value-3.field-0 = search rules in
    err-is _ c.from_residual-in_err-count_values.ensures.0
    ∙ no-values _ _ (first b.After-read_value) _ (name-told b.In_ok-name_at) (second b.After-read_value-2) _ (number-told b.In_ok-number)
    (third b.After-read_value-3) w (all_there _ _ c.in_err-count_values.ensures)

pub returns : goal.returns
returns c =
    let b = goal.at.returns c in
    let w : c.read_value-3.result ≡ Ok c.in_ok-read_value-3.field-0 = search rules in
    let a = all_there _ _ c.in_ok-count_values.ensures in
    rw (c.command_name.ensures, c.argument_at.ensures, first_told c.args.body.now _ a.all a.ended)
    (command-is _ _ (first b.After-read_value) _ (name-told b.In_ok-name_at) (second b.After-read_value-2) _ (number-told b.In_ok-number)
    (third b.After-read_value-3) w a.all a.read)
