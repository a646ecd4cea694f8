-- `bodies::put_field` meets its contract: the property, or nothing where it is absent.
-- Assumes nothing.
use Rattle.bodies.specs.Fields.{field_bytes}
use Rattle.octets.proofs.OutputLaws.{no-put}
use borrow.Author.Rules.{rules}
use Rattle.bodies.proofs.metadata_body.put_field.Goals as goal

pub returns-in-Some-clause-put : goal.returns-in-Some-clause-put
unfolding field_bytes
returns-in-Some-clause-put g c = rw c.in-Some.is (search rules)

pub returns-in_default-clause-put : goal.returns-in_default-clause-put
unfolding field_bytes
returns-in_default-clause-put g c = rw c.in_default.is no-put
