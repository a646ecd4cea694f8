-- What an output holds back.
-- Assumes nothing.
use Rattle.std.specs.Prelude.{ℕ, List, Option, take}
use Rattle.std.specs.Io.KnownBytes.{append_known}
use Rattle.case_lines.specs.declared.waiting.Output.{Output}

-- the bytes that were written to it and didn't go out yet
abbrev pub waiting : {W : Type 0} → Output W → List ℕ
waiting o = take o.used o.bytes

-- what went out, and then what waits, where the former is known
abbrev pub written : {W : Type 0} → (W → Option (List ℕ)) → Output W → Option (List ℕ)
written contents o = append_known (contents o.to) (waiting o)
