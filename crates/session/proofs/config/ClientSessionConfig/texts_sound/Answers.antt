-- `ClientSessionConfig::texts_sound` meets its contract: the flash version's text first, then a configured tcUrl's.
-- Assumes nothing.
use Rattle.session.specs.Record.{texts_sound}
use Rattle.session.proofs.config.ClientSessionConfig.texts_sound.Goals as goal

pub returns-else-sound : goal.returns-else-sound
unfolding texts_sound
returns-else-sound c = rw (← c.sound.ensures, c.if-sound.false)

pub returns-in-None : goal.returns-in-None
unfolding texts_sound
returns-in-None c = rw (← c.sound.ensures, c.if-sound.true, c.in-None.is)

pub returns-in-Some : goal.returns-in-Some
unfolding texts_sound
returns-in-Some c = rw (← c.sound.ensures, c.if-sound.true, c.in-Some.is) c.sound-in-Some.ensures
