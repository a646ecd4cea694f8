-- `encoder_fits` meets its contract: an absent text is empty, another is the part that its place names.
-- Assumes nothing.
use Rattle.octets.specs.Utf8.{octets, utf8}
use Rattle.amf0.specs.Places.{stretch}
use Rattle.requests.specs.Texts.{fits}
use Rattle.session.proofs.sending.encoder_fits.Goals as goal

pub returns-in-None : goal.returns-in-None
unfolding fits octets stretch utf8
returns-in-None c = rw c.in-None.is

pub returns-in-Some : goal.returns-in-Some
unfolding stretch
returns-in-Some c = rw (c.in-Some.is, ← c.part_of.ensures) c.fits.ensures
