-- `ClientSession::new` meets its contract: refusal 9, refusal 7, and else a fresh session.
-- Assumes nothing.
use mathlib.Core.Bool.{not}
use mathlib.Core.Path.{ap}
use Rattle.std.proofs.Common.{◌≡◌, true, false, arith, le-leb}
use borrow.Author.Tests.{lt-leb}
use Rattle.session.specs.Record.{texts_sound, fresh, open_of}
use Rattle.session.proofs.StepLaws.{is_said}
use Rattle.session.proofs.RecordLaws.{not-held}
use Rattle.session.proofs.record.ClientSession.new.Goals as goal

pub returns-then-not-texts_sound : goal.returns-then-not-texts_sound
unfolding fresh open_of
returns-then-not-texts_sound c =
    let t : texts_sound c.args.config ≡ false = not-held c.texts_sound.ensures (ap not c.if-not-texts_sound.true) in
    rw (c.new.ensures, t)

pub returns-then-config-gt2147483647 : goal.returns-then-config-gt2147483647
unfolding fresh open_of
returns-then-config-gt2147483647 c =
    let g = c.args.config in
    let t : texts_sound g ≡ true = is_said c.texts_sound.ensures (ap not c.if-not-texts_sound.false) in
    rw (c.new.ensures, t, lt-leb g.chunk_size 2147483647 (omega arith))

pub returns : goal.returns
unfolding fresh open_of
returns c =
    let g = c.args.config in
    let t : texts_sound g ≡ true = is_said c.texts_sound.ensures (ap not c.if-not-texts_sound.false) in
    rw (c.new.ensures, t, le-leb g.chunk_size 2147483647 (omega arith))
