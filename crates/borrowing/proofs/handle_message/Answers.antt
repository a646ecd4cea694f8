-- `borrowing::handle_message` meets its contract where nothing is stored: a picture or sound under its own type.
-- Assumes nothing.
use mathlib.Core.Path.{◌≡◌}
use lib.Dec.{T as Holds}
use Rattle.session.specs.Message.{media_type}
use Rattle.borrowing.proofs.MediaLaws.{own_type}
use Rattle.borrowing.proofs.handle_message.Goals as goal

pub returns-then-is_media : goal.returns-then-is_media
returns-then-is_media c =
    let on : Holds c.is_media.result = rw c.if-is_media.true tt in
    let e : media_type c.args.type_id ≡ c.args.type_id = own_type c.args.type_id c.is_media.result c.is_media.ensures on in
    rw e at (c.media_outcome.ensures c.args.clock c.args.out.now)
