-- `connect` meets its contract: sound texts are short enough to be sent.
-- Assumes nothing.
use Rattle.session.proofs.RecordLaws.{flash-sound, url-sound, sound-short}
use Rattle.session.proofs.sending.connect.Goals as goal

pub write_connect-requires-clause-flash_short : goal.write_connect-requires-clause-flash_short
write_connect-requires-clause-flash_short c = sound-short _ (flash-sound c.args.config.now c.requires.sound) c.as_slice-flash.ensures

pub write_connect-requires-in-Some-clause-flash_short : goal.write_connect-requires-in-Some-clause-flash_short
write_connect-requires-in-Some-clause-flash_short c = sound-short _ (flash-sound c.args.config.now c.requires.sound) c.as_slice-flash.ensures

pub write_connect-requires-in-Some-clause-url_short : goal.write_connect-requires-in-Some-clause-url_short
write_connect-requires-in-Some-clause-url_short c = sound-short _ (url-sound c.args.config.now c.requires.sound c.in-Some.is) c.as_slice.ensures
