-- What is said on standard error of a line that can't be read.
-- Assumes nothing.
use Rattle.std.specs.Prelude.{ℕ, List, ◌++◌}
use Rattle.octets.specs.Compare.{ascii}
use Rattle.script.specs.declared.reasons.Why.{Why}
use Rattle.script.specs.declared.reasons.Why.TheVariants.{Missing, Extra, Number, Hex, Verb, Kind, Flag, Name, LineLength, BodyLength}
use Rattle.script_results.specs.Decimal.{shown}

abbrev pub why_text : Why → List ℕ
why_text Missing = ascii ": a field is missing\n"
why_text Extra = ascii ": more fields than the verb has\n"
why_text Number = ascii ": not a decimal number in range\n"
why_text Hex = ascii ": not an even number of hexadecimal digits\n"
why_text Verb = ascii ": unknown verb\n"
why_text Kind = ascii ": not live, record or append\n"
why_text Flag = ascii ": not 0 or 1\n"
why_text Name = ascii ": not NAME=VALUE of metadata\n"
why_text LineLength = ascii ": the line is too long\n"
why_text BodyLength = ascii ": the body is too long\n"

-- with the number of the line
unfoldable pub complaint : ℕ → Why → List ℕ
complaint line w = (ascii "card: line " ++ shown line) ++ why_text w
