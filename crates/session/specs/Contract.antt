-- The contract of every call: its answer, the session handed back and the lent output at exit are those of `step`.
-- Assumes nothing.
use Rattle.std.specs.Prelude.{◌≡◌, ℕ, List}
use Rattle.messages.specs.declared.ids.RtmpTimestamp.{RtmpTimestamp}
use Rattle.session.specs.Calls.{Call}
use Rattle.session.specs.Step.{step}
use Rattle.session.specs.declared.record.Called.{Called}
use Rattle.session.specs.declared.record.ClientSession.{ClientSession}

pub record Does (s : ClientSession) (clock : RtmpTimestamp) (c : Call) (old : List ℕ) (r : Called) (exit : List ℕ) : Type 0 where
  pub answers : r.outcome ≡ (step s clock c old).outcome
  pub hands_back : r.session ≡ (step s clock c old).session
  pub leaves : exit ≡ (step s clock c old).output
