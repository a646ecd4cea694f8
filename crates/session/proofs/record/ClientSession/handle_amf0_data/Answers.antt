-- `ClientSession::handle_amf0_data` meets its contract: metadata, or other values.
-- Assumes nothing.
use Rattle.std.proofs.Common.{refl}
use Rattle.session.proofs.StepLaws.{quiet-goes}
use Rattle.session.proofs.MessageLaws.{metadata-in, others_in}
use Rattle.session.proofs.record.ClientSession.handle_amf0_data.Goals as goal

pub returns-in-OnMetaData : goal.returns-in-OnMetaData
returns-in-OnMetaData c =
    λ clock old.
    let b = c.args.body.now in
    metadata-in clock b _ c.in-OnMetaData.is c.read_metadata.ensures (c.if_active.ensures clock b old)

pub returns-in-Other : goal.returns-in-Other
returns-in-Other c = λ clock old. others_in clock _ _ c.in-Other.is (quiet-goes refl)
