-- What a line asks for: its clock, its verb, and the verb's fields. What is wrong with a line is what is wrong with the first field that can't be taken,
-- and then that there are more fields than the verb has.
-- Assumes nothing.
use Rattle.std.specs.Prelude.{ℕ, Bool, cond, List, [], ◌∷◌, eqb, ltb, Option, Some, None, Result, Ok, Err}
use Rattle.std.specs.Option.{ok_or}
use Rattle.std.specs.Result.{result_ok}
use Rattle.messages.specs.declared.ids.RtmpTimestamp.{RtmpTimestamp}
use Rattle.messages.specs.declared.ids.StreamNumber.{StreamNumber}
use Rattle.messages.specs.declared.publish_request_type.PublishRequestType.{PublishRequestType}
use Rattle.octets.specs.declared.span.Span.{Span}
use Rattle.script.specs.declared.reasons.Why.{Why}
use Rattle.script.specs.declared.reasons.Why.TheVariants as why
use Rattle.script.specs.declared.verbs.Verb.{Verb}
use Rattle.script.specs.declared.verbs.Verb.TheVariants as verbs
use Rattle.script.specs.declared.asked.Line.{Line}
use Rattle.script.specs.declared.asked.Line.TheVariants.{Empty, Bytes, Msg, Connect, Play, Publish, StopPlayback, StopPublishing, Ping, Video, Audio, Metadata, OpenDefault, Open, Space}
use Rattle.script.specs.declared.asked.Settings.{Settings}
use Rattle.script.specs.Hex.{is_hex}
use Rattle.script.specs.Decimal.{decimal_of}
use Rattle.script.specs.Fields.{Field, span_of, end_of, bare, fields_at}
use Rattle.script.specs.Verbs.{verb_of, publish_type}

-- what was read goes on to k; what is wrong stays
abbrev pub on : {A B : Type 0} → Result A Why → (A → Result B Why) → Result B Why
on (Err w) k = Err w
on (Ok x) k = k x

-- What a reader makes of the fields that are left: of the next one, and of none.
unfoldable pub word_of : List Field → Result (List ℕ) Why
word_of [] = Err why.Missing
word_of (f ∷ fs) = Ok f.bytes

unfoldable pub text_of : List Field → Result Span Why
text_of [] = Err why.Missing
text_of (f ∷ fs) = Ok (span_of f)

unfoldable pub number_of : List Field → Result ℕ Why
number_of fs = on (word_of fs) (λ w. ok_or (decimal_of w) why.Number)

unfoldable pub hex_of : List Field → Result Span Why
hex_of fs = on (word_of fs) (λ w. cond (is_hex w) (text_of fs) (Err why.Hex))

-- `live`, `record` or `append`
abbrev pub kind_of : List Field → Result PublishRequestType Why
kind_of fs = on (word_of fs) (λ w. ok_or (publish_type w) why.Kind)

-- 0 or 1
abbrev pub flag : ℕ → Option Bool
flag n = cond (ltb 1 n) None (Some (eqb n 1))

unfoldable pub flag_of : List Field → Result Bool Why
flag_of fs = on (number_of fs) (λ n. ok_or (flag n) why.Flag)

-- the fields after the next
unfoldable pub rest : List Field → List Field
rest [] = []
rest (f ∷ fs) = fs

-- no field is left
unfoldable pub ended : List Field → Result (Unit {0}) Why
ended [] = Ok tt
ended (f ∷ fs) = Err why.Extra

-- the next field is read, and k goes on with it and the fields after
abbrev pub then : {A B : Type 0} → (List Field → Result A Why) → List Field → (A → List Field → Result B Why) → Result B Why
then read fs k = on (read fs) (λ x. k x (rest fs))

-- the answer, where no field is left
abbrev pub closed : {A : Type 0} → List Field → A → Result A Why
closed fs x = on (ended fs) (λ u. Ok x)

-- one field, as the last
abbrev pub last : {A : Type 0} → (List Field → Result A Why) → List Field → Result A Why
last read fs = then read fs (λ x gs. closed gs x)

abbrev pub timestamp : ℕ → RtmpTimestamp
timestamp n = record { 0 = n }

abbrev pub stream : ℕ → StreamNumber
stream n = record { 0 = n }

abbrev pub msg_line : RtmpTimestamp → List Field → Result Line Why
msg_line clock fs =
    then number_of fs (λ kind gs. cond (ltb 255 kind) (Err why.Number)
    (then number_of gs (λ time hs. then number_of hs (λ x is. then hex_of is (λ body js.
    closed js (Msg clock kind (timestamp time) (stream x) body))))))

abbrev pub publish_line : RtmpTimestamp → List Field → Result Line Why
publish_line clock fs = then text_of fs (λ key gs. then kind_of gs (λ t hs. closed hs (Publish clock key t)))

-- time, droppable flag and body of a picture or a sound, as the last fields
abbrev pub media_of : List Field → Result (RtmpTimestamp × Bool × Span) Why
media_of fs = then number_of fs (λ time gs. then flag_of gs (λ droppable hs. then hex_of hs (λ body js. closed js (timestamp time, droppable, body))))

abbrev pub media_line : (RtmpTimestamp → Bool → Span → Line) → List Field → Result Line Why
media_line k fs = on (media_of fs) (λ m. Ok (k m.0 m.1 m.2))

abbrev pub settings : Span → ℕ → ℕ → ℕ → Option Span → Settings
settings flash buffer window chunk url = record { flash = flash; buffer = buffer; window = window; chunk = chunk; url = url }

-- flash version, buffer length, window size, chunk size and, if one is configured, tcUrl
abbrev pub settings_of : Span → List Field → Result Settings Why
settings_of flash fs =
    then number_of fs (λ buffer gs. then number_of gs (λ window hs. then number_of hs (λ chunk is.
    closed (rest is) (settings flash buffer window chunk (result_ok (text_of is))))))

-- no field, or the settings
unfoldable pub open_line : List Field → Result Line Why
open_line [] = Ok OpenDefault
open_line (f ∷ fs) = on (settings_of (span_of f) fs) (λ s. Ok (Open s))

-- the verb's field ends at `end`, and fs are those after it
abbrev pub verb_line : RtmpTimestamp → Verb → ℕ → List Field → Result Line Why
verb_line clock verbs.Bytes end fs = on (last number_of fs) (λ count. Ok (Bytes clock count))
verb_line clock verbs.Msg end fs = msg_line clock fs
verb_line clock verbs.Connect end fs = on (last text_of fs) (λ app. Ok (Connect clock app))
verb_line clock verbs.Play end fs = on (last text_of fs) (λ key. Ok (Play clock key))
verb_line clock verbs.Publish end fs = publish_line clock fs
verb_line clock verbs.StopPlayback end fs = closed fs (StopPlayback clock)
verb_line clock verbs.StopPublishing end fs = closed fs (StopPublishing clock)
verb_line clock verbs.Ping end fs = closed fs (Ping clock)
verb_line clock verbs.Video end fs = media_line (Video clock) fs
verb_line clock verbs.Audio end fs = media_line (Audio clock) fs
verb_line clock verbs.Metadata end fs = Ok (Metadata clock end)
verb_line clock verbs.Open end fs = open_line fs
verb_line clock verbs.Space end fs = on (last number_of fs) (λ n. Ok (Space n))

unfoldable pub call_line : RtmpTimestamp → List Field → Result Line Why
call_line clock [] = Err why.Missing
call_line clock (f ∷ fs) = on (ok_or (verb_of f.bytes) why.Verb) (λ verb. verb_line clock verb (end_of f) fs)

unfoldable pub bare_line : List ℕ → Result Line Why
bare_line [] = Ok Empty
bare_line (x ∷ xs) = then number_of (fields_at (x ∷ xs) 0) (λ clock fs. call_line (timestamp clock) fs)

-- a line, without its newline
abbrev pub line_of : List ℕ → Result Line Why
line_of s = bare_line (bare s)
