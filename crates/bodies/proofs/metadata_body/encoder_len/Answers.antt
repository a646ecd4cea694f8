-- `bodies::encoder_len` meets its contract: the length of the text that lies there, with its name and marker.
-- Assumes nothing.
use native.Mathlib.Omega.{arith}
use mathlib.Core.Path.{ap}
use lib.ListN.{length}
use Rattle.amf0.specs.Places.{stretch}
use Rattle.bodies.proofs.FieldLaws.{stretch-at}
use Rattle.bodies.proofs.metadata_body.encoder_len.Goals as goal

pub returns-in-Some : goal.returns-in-Some
unfolding stretch
returns-in-Some c =
    rw c.in-Some.is (omega (arith, ap length c.part_of.ensures, ap length (stretch-at c.args.text.now c.in-Some.is)))
