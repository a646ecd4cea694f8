-- A stage and its number: the number of each stage names that stage, and the number after the last names none.
-- Assumes nothing.
use mathlib.Core.Path.{◌≡◌, refl}
use Rattle.std.specs.Prelude.{Ok, Err}
use Rattle.session.specs.Numbers.{stage_number, stage_of}
use Rattle.session.specs.declared.state.ClientState.{ClientState}
use Rattle.session.specs.declared.state.ClientState.TheVariants.{Disconnected, Connected, PlayRequested, Playing, PublishRequested, Publishing}

pub stage-named : (g : ClientState) → stage_of (stage_number g) ≡ Ok g
unfolding stage_of
stage-named Disconnected = refl
stage-named Connected = refl
stage-named PlayRequested = refl
stage-named Playing = refl
stage-named PublishRequested = refl
stage-named Publishing = refl

pub no-stage : stage_of 6 ≡ Err (record {})
unfolding stage_of
no-stage = refl
