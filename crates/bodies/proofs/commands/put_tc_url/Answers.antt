-- `bodies::put_tc_url` meets its contract: where it is given the property and the end, else the end alone.
-- Assumes nothing.
use Rattle.amf0.proofs.WriteLaws.{end-put, prop-put}
use Rattle.bodies.proofs.commands.put_tc_url.Goals as goal
use Rattle.bodies.proofs.commands.put_tc_url.Goals.{in-Some, in_default}

pub returns : goal.returns
returns c =
    elim c.match-url.branch [
      | in-Some w ↦ rw w.in-Some.is (prop-put _ _ _ w.put_text_property.ensures.put (end-put (rw w.w-is at c.put_object_end.ensures.put)))
      | in_default w ↦ rw w.in_default.is (end-put (rw w.w-is at c.put_object_end.ensures.put))
    ]
