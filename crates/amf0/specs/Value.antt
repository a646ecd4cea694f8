-- AMF0 values, by Adobe's "Action Message Format - AMF 0", section 2. A number is its 64-bit pattern, a text its bytes. An ECMA array is
-- an object here, as document 01 reads it.
-- Assumes nothing.
use Rattle.std.specs.Prelude.{ℕ, Bool, List}

mutual
  pub data Value : Type 0 where
    number : ℕ → Value
    boolean : Bool → Value
    text : List ℕ → Value
    object : Props → Value
    null undefined : Value
    strict : Values → Value

  -- names with their values, in order
  pub data Props : Type 0 where
    end : Props
    prop : List ℕ → Value → Props → Props

  pub data Values : Type 0 where
    nil : Values
    cons : Value → Values → Values
