-- `bodies::put_encoder` meets its contract: the property with the text that lies there, or nothing where it is absent.
-- Assumes nothing.
use native.Mathlib.Omega.{arith}
use mathlib.Core.Path.{ap}
use lib.ListN.{length}
use Rattle.amf0.specs.Places.{stretch}
use Rattle.bodies.specs.Fields.{field_bytes}
use Rattle.bodies.proofs.FieldLaws.{stretch-at}
use Rattle.octets.proofs.OutputLaws.{no-put}
use borrow.Author.Rules.{rules}
use Rattle.bodies.proofs.metadata_body.put_encoder.Goals as goal

pub put_text_property-requires : goal.put_text_property-requires
unfolding stretch
put_text_property-requires c =
    let l = ap length c.part_of.ensures in
    let e = ap length (stretch-at c.args.text.now c.in-Some.is) in
    record { name_short = search rules; t_short = omega arith; room = omega (arith, rw c.in-Some.is at c.requires.room) }

pub returns-in-Some : goal.returns-in-Some
unfolding field_bytes stretch
returns-in-Some c = rw (c.in-Some.is, ← c.part_of.ensures) (search rules)

pub returns-in_default-clause-put : goal.returns-in_default-clause-put
unfolding field_bytes
returns-in_default-clause-put c = rw c.in_default.is no-put
