-- Bodies of one value, as rows of one table: the AMF0 paper's layouts, document 01's starred "Depth 8 passes, 9 doesn't", and what else it refuses.
-- `proofs/Starred.antt` has the theorem over the rows.
-- Assumes nothing.
use Rattle.std.specs.Prelude.{ℕ, zero, suc, ◌≡◌, Bool, true, false, List, [], ◌∷◌, ◌++◌}
use Rattle.octets.specs.Parse.{Parse, bad, got}
use Rattle.octets.specs.Compare.{ascii}
use Rattle.amf0.specs.Value.{Value, number, boolean, text, object, null, undefined, strict, end, prop, nil, cons}
use Rattle.amf0.specs.Decode.{top_value}

-- bytes, with the value that they are, or with whether they are a value and nothing more
pub data Row : Type 0 where
  is : List ℕ → Value → Row
  passes : List ℕ → Bool → Row

abbrev pub alone : Parse Value → Bool
alone bad = false
alone (got v []) = true
alone (got v (x ∷ r)) = false

-- what a row says
abbrev pub Says : Row → Type 0
Says (is s v) = top_value s ≡ got v []
Says (passes s b) = alone (top_value s) ≡ b

-- `inner` with `before` before and `after` after it, n times
abbrev pub nest : ℕ → List ℕ → List ℕ → List ℕ → List ℕ
nest zero before after inner = inner
nest (suc n) before after inner = before ++ nest n before after inner ++ after

-- inside n strict arrays of one value; inside n objects, or n ECMA arrays, as their property `a`
abbrev pub arrays : ℕ → List ℕ → List ℕ
arrays n = nest n (0x0a ∷ 0 ∷ 0 ∷ 0 ∷ 1 ∷ []) []

abbrev pub objects : ℕ → List ℕ → List ℕ
objects n = nest n (0x03 ∷ 0 ∷ 1 ∷ ascii "a") (0 ∷ 0 ∷ 0x09 ∷ [])

abbrev pub ecma_arrays : ℕ → List ℕ → List ℕ
ecma_arrays n = nest n (0x08 ∷ 0 ∷ 0 ∷ 0 ∷ 1 ∷ 0 ∷ 1 ∷ ascii "a") (0 ∷ 0 ∷ 0x09 ∷ [])

abbrev pub rows : List Row
rows =
    is (0x00 ∷ 0x3f ∷ 0xf0 ∷ 0 ∷ 0 ∷ 0 ∷ 0 ∷ 0 ∷ 0 ∷ []) (number 0x3ff0_0000_0000_0000)
    ∷ is (0x01 ∷ 0 ∷ []) (boolean false)
    ∷ is (0x01 ∷ 1 ∷ []) (boolean true)
    ∷ is (0x01 ∷ 0xff ∷ []) (boolean true)
    ∷ is (0x02 ∷ 0 ∷ 4 ∷ ascii "live") (text (ascii "live"))
    ∷ is (0x02 ∷ 0 ∷ 0 ∷ []) (text [])
    ∷ is (0x03 ∷ 0 ∷ 3 ∷ ascii "app" ++ 0x02 ∷ 0 ∷ 4 ∷ ascii "live" ++ 0 ∷ 0 ∷ 0x09 ∷ []) (object (prop (ascii "app") (text (ascii "live")) end))
    ∷ is (0x05 ∷ []) null
    ∷ is (0x06 ∷ []) undefined
    ∷ is (0x08 ∷ 0xff ∷ 0xff ∷ 0xff ∷ 0xff ∷ 0 ∷ 1 ∷ ascii "w" ++ 0x05 ∷ 0 ∷ 0 ∷ 0x09 ∷ []) (object (prop (ascii "w") null end))
    ∷ is (0x0a ∷ 0 ∷ 0 ∷ 0 ∷ 2 ∷ 0x05 ∷ 0x06 ∷ []) (strict (cons null (cons undefined nil)))
    ∷ passes (arrays 7 (0x05 ∷ [])) true
    ∷ passes (arrays 8 (0x05 ∷ [])) false
    ∷ passes (objects 7 (0x05 ∷ [])) true
    ∷ passes (objects 8 (0x05 ∷ [])) false
    ∷ passes (ecma_arrays 7 (0x05 ∷ [])) true
    ∷ passes (ecma_arrays 8 (0x05 ∷ [])) false
    ∷ passes (objects 7 (0x03 ∷ 0 ∷ 0 ∷ 0x09 ∷ [])) true
    ∷ passes (objects 8 (0x03 ∷ 0 ∷ 0 ∷ 0x09 ∷ [])) false
    ∷ passes (arrays 3 (objects 2 (ecma_arrays 2 (0x01 ∷ 1 ∷ [])))) true
    ∷ passes (arrays 3 (objects 2 (ecma_arrays 3 (0x01 ∷ 1 ∷ [])))) false
    ∷ passes [] false
    ∷ passes (0x09 ∷ []) false
    ∷ passes (0x05 ∷ 0x05 ∷ []) false
    ∷ passes (0x02 ∷ 0 ∷ 1 ∷ 0xff ∷ []) false
    ∷ passes (0x03 ∷ 0 ∷ 0 ∷ 0x05 ∷ 0 ∷ 0 ∷ 0x09 ∷ []) false
    ∷ passes (0x08 ∷ 0 ∷ 0 ∷ 0 ∷ 1 ∷ 0 ∷ 1 ∷ 0xff ∷ 0x05 ∷ 0 ∷ 0 ∷ 0x09 ∷ []) false
    ∷ []
