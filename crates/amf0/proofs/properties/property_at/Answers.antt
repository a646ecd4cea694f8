-- `amf0::properties::property_at` meets its contract: the name, and then the value.
-- Assumes nothing.
use Rattle.std.proofs.Common.{◌≡◌, arith, drop, sym, ap, ◌∙◌}
use Rattle.std.specs.Prelude.{Ok}
use Rattle.amf0.specs.Decode.{name_of}
use Rattle.amf0.specs.Names.{named_of, with_value, property_of}
use Rattle.amf0.specs.declared.names.Named.TheVariants.{At}
use Rattle.amf0.proofs.PlaceLaws.{err-is}
use Rattle.amf0.proofs.TextLaws.{name-place}
use Rattle.amf0.proofs.properties.property_at.Goals as goal
use Rattle.amf0.proofs.properties.property_at.Goals.{In-At}

-- the name that was read
name-of : (c : In-At) → Ok (At c.in-At.name) ≡ named_of c.args.s.now (name_of (drop c.args.at c.args.s.now))
name-of c = ap Ok (sym c.in-At.is) ∙ c.in_ok-name.ensures

pub returns-in_err-name : goal.returns-in_err-name
unfolding property_of
returns-in_err-name c = err-is _ c.from_residual.ensures.0 ∙ ap (property_of c.args.s.now) c.in_err-name.ensures

pub overflow_add-name : goal.overflow_add-name
overflow_add-name c = omega (arith, (name-place c.args.s.now c.args.at _ (name-of (goal.at.overflow_add-name c).In-At)).within)

pub returns-in_err-next-in-At : goal.returns-in_err-next-in-At
unfolding property_of
returns-in_err-next-in-At c =
    let k = (goal.at.returns-in_err-next-in-At c).In-At in
    err-is _ c.from_residual-in_err-next-in-At.ensures.0
    ∙ ap (with_value c.in-At.name) c.in_err-next-in-At.ensures ∙ ap (property_of k.args.s.now) (name-of k)

pub returns-in-End : goal.returns-in-End
unfolding property_of
returns-in-End c = ap (property_of c.args.s.now) (ap Ok (sym c.in-End.is) ∙ c.in_ok-name.ensures)

pub returns-in_ok-next-in-At : goal.returns-in_ok-next-in-At
unfolding property_of
returns-in_ok-next-in-At c =
    let k = (goal.at.returns-in_ok-next-in-At c).In-At in
    ap (with_value c.in-At.name) c.in_ok-next-in-At.ensures ∙ ap (property_of k.args.s.now) (name-of k)
