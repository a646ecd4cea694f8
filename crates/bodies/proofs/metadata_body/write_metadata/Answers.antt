-- `bodies::write_metadata` meets its contract: the names and the fields in their three groups, or no space.
-- Assumes nothing.
use borrow.Author.Rules.{rules}
use native.Mathlib.Omega.{arith}
use Rattle.octets.proofs.OutputLaws.{fitted, short}
use Rattle.bodies.proofs.FieldLaws.{metadata-put, length-metadata}
use Rattle.bodies.proofs.metadata_body.write_metadata.Goals as goal

pub returns-then-out-video_len : goal.returns-then-out-video_len
returns-then-out-video_len c = short (simp length-metadata (omega arith))

pub returns : goal.returns
returns c = fitted c.put_last.new.w c.new-w.ensures c.position.ensures (search metadata-put) (search rules) (simp length-metadata (omega arith))
