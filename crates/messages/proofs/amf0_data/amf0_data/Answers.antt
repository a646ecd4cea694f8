-- `messages::amf0_data::amf0_data` meets its contract: malformed, or what the first two values say.
-- Assumes nothing.
use Rattle.std.proofs.Common.{◌≡◌, ℕ, List, Bor, drop, refl, sym, ap, ◌∙◌}
use Rattle.std.specs.Prelude.{Result}
use Rattle.amf0.specs.Decode.{all_values}
use Rattle.amf0.specs.Places.{count_of}
use Rattle.amf0.specs.declared.read.Malformed.{Malformed}
use Rattle.amf0.proofs.PlaceLaws.{err-is}
use Rattle.reader.proofs.TakenLaws.{ReadAt, read_at}
use Rattle.messages.proofs.ValuesLaws.{AllThere, all_there, all-before}
use Rattle.messages.proofs.DataLaws.{no_data, data-is}
use Rattle.messages.proofs.amf0_data.amf0_data.Goals as goal
use Rattle.messages.proofs.amf0_data.amf0_data.Goals.{After-read_value-second}

-- the two values that are read
abbrev bytes : Bor (List ℕ) → List ℕ
bytes b = b.now

first : (c : After-read_value-second) → ReadAt c.args.body.now 0 c.read_value-first.result c.read_value-first.new.self.at
first c =
    read_at c.args.body.now 0 (ap bytes c.new-reader.ensures.0) c.new-reader.ensures.1 c.read_value-first.ensures.kind c.read_value-first.ensures.at

second : (c : After-read_value-second)
    → ReadAt c.args.body.now c.read_value-first.new.self.at c.read_value-second.result c.read_value-second.new.self.at
second c =
    read_at c.args.body.now _ (ap bytes (c.read_value-first.ensures.src ∙ c.new-reader.ensures.0)) refl
    c.read_value-second.ensures.kind c.read_value-second.ensures.at

-- what is counted after them tells of all
all_told : (c : After-read_value-second) (o : Result ℕ Malformed) → o ≡ count_of (all_values (drop c.read_value-second.new.self.at c.args.body.now))
    → AllThere c.args.body.now o
all_told c o e = all-before c.args.body.now 0 (first c) o (all-before c.args.body.now _ (second c) o (all_there _ o e))

pub returns-in_err-count_values : goal.returns-in_err-count_values
returns-in_err-count_values c =
    let b = (goal.at.returns-in_err-count_values c).After-read_value-second in
    err-is _ c.from_residual.ensures.0 ∙ no_data c.args.body.now (all_told b _ c.in_err-count_values.ensures)

pub returns-then-is_on_meta_data : goal.returns-then-is_on_meta_data
returns-then-is_on_meta_data c =
    let b = (goal.at.returns-then-is_on_meta_data c).After-read_value-second in
    let d = data-is c.args.body.now (all_told b _ c.in_ok-count_values.ensures) (first b) (second b) in
    rw c.if_object.ensures (rw (sym c.is_on_meta_data.ensures ∙ c.if-is_on_meta_data.true) at d)

pub returns : goal.returns
returns c =
    let b = (goal.at.returns c).After-read_value-second in
    let d = data-is c.args.body.now (all_told b _ c.in_ok-count_values.ensures) (first b) (second b) in
    rw (sym c.is_on_meta_data.ensures ∙ c.if-is_on_meta_data.false) at d
