-- Notice (document 01): an onStatus message with a code, which is the text `code` of its first argument.
-- Assumes nothing.
use Rattle.std.specs.Prelude.{ℕ, cond, List, Option, Some, None}
use Rattle.octets.specs.Compare.{ascii, same, part}
use Rattle.amf0.specs.Value.{Value, number, boolean, text, object, null, undefined, strict, Values, nil, cons}
use Rattle.amf0.specs.Lookup.{property, properties_at}
use Rattle.amf0.specs.Places.{text_of_property, stretch}
use Rattle.octets.specs.declared.span.Span.{Span}
use Rattle.messages.specs.declared.on_status.OnStatus.{OnStatus}
use Rattle.messages.specs.declared.on_status.OnStatus.TheVariants as status

-- by the code's bytes, which stand at that place
unfoldable pub code_is : Span → List ℕ → OnStatus
code_is p t =
    cond (same t (ascii "NetStream.Play.Start")) status.PlayStart
    (cond (same t (ascii "NetStream.Publish.Start")) status.PublishStart
    (status.Other p))

unfoldable pub code_of : List ℕ → Option Span → Option OnStatus
code_of s None = None
code_of s (Some p) = Some (code_is p (part s p.start p.len))

-- the code in the value that x, a last part of s, begins with
abbrev pub code_at : List ℕ → List ℕ → Option OnStatus
code_at s x = code_of s (text_of_property s (ascii "code") (properties_at x))

-- the description in the value that x begins with: the stretch of s that the text of that name is, empty where there is none
abbrev pub description_at : List ℕ → List ℕ → List ℕ
description_at s x = stretch s (text_of_property s (ascii "description") (properties_at x))

-- the same by the values alone: the text of that name in the first argument
abbrev pub as_text : Option Value → Option (List ℕ)
as_text None = None
as_text (Some (text t)) = Some t
as_text (Some (number n)) = None
as_text (Some (boolean b)) = None
as_text (Some (object ps)) = None
as_text (Some null) = None
as_text (Some undefined) = None
as_text (Some (strict vs)) = None

unfoldable pub text_in : List ℕ → Values → Option (List ℕ)
text_in name nil = None
text_in name (cons v vs) = as_text (property name v)
