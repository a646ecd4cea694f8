-- `amf0::put_boolean` meets its contract: the marker and the byte that the library makes of a bool.
-- Assumes nothing.
use mathlib.Core.Bool.{Bool, true, false, cond}
use mathlib.Core.Path.{◌≡◌, refl, ◌∙◌}
use mir.Val.{bool_byte}
use Rattle.octets.proofs.OutputLaws.{cons}
use Rattle.amf0.specs.Encode.{encode}
use Rattle.amf0.proofs.write.put_boolean.Goals as goal

byte_is : (b : Bool) → bool_byte b ≡ cond b 1 0
byte_is true = refl
byte_is false = refl

pub returns-clause-put : goal.returns-clause-put
unfolding encode
returns-clause-put c = cons c.put_u8.ensures.put (rw (c.from.ensures ∙ byte_is c.args.b) at c.put_u8-2.ensures.put)
