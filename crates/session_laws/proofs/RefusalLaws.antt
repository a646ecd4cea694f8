-- The statements of specs/Refusals.antt.
-- Assumes nothing.
use mathlib.Core.Path.{refl}
use Rattle.session.specs.Record.{texts_sound, chunk_sound, open_of}
use Rattle.session.specs.declared.record.Called.{Called}
use Rattle.session_laws.specs.Refusals.{EveryCall, EveryOpening}
use Rattle.session_laws.proofs.DecideLaws.{decides_not_le}
use Rattle.session_laws.proofs.OrderLaws.{passed, exact, turned_unless}
use Rattle.session_laws.proofs.SessionLaws.{decides_texts}
use Rattle.session_laws.proofs.CallLaws.{thirteen, walked}
use Rattle.session_laws.proofs.MessageLaws.{came}

pub every_call : EveryCall
every_call s clock c old = exact (thirteen s clock old c (λ ok. walked s clock old c ok (came s clock old)))

pub every-opening : EveryOpening
unfolding open_of
every-opening c =
    exact
    (turned_unless (λ (r : Called). r.outcome) (texts_sound c) _ _ (decides_texts c) refl λ h.
    turned_unless (λ (r : Called). r.outcome) (chunk_sound c.chunk_size) _ _ (decides_not_le c.chunk_size 2147483647) refl λ h.
    passed tt refl)
