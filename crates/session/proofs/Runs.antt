-- Each row of the table of runs holds, by computation.
-- Assumes nothing.
use Rattle.std.proofs.Common.{◌≡◌, ℕ, ◌+◌, cond, List, [], ◌∷◌, map, set, replicate, refl, ap, ◌∙◌, Some}
use mathlib.Core.List.{Memᴰ}
use lib.Ieee.{of_bits, to_bits, of_int, round, to_unsigned}
use Rattle.octets.specs.Parse.{field}
use Rattle.octets.specs.BigEndian.{uint, digits}
use Rattle.octets.specs.Compare.{same}
use Rattle.octets.specs.Utf8.{any_row, octets, utf8}
use Rattle.numbers.specs.Numbers.{narrowed}
use Rattle.amf0.specs.Decode.{marker_of, marker, text_of, name_of, properties, values, content, value, to_end}
use Rattle.amf0.specs.Encode.{text_bytes, encode}
use Rattle.amf0.specs.Lookup.{last_of, properties_of, properties_at}
use Rattle.amf0.specs.Places.{text_place, kind_after, kind_at, text_found, text_of_property, stretch}
use Rattle.messages.specs.Incoming.{bandwidth_of, event_of, user_control_of, text_only, number_only, command_of, after_zero, data_of, decode}
use Rattle.messages.specs.Numbers.{limit_type}
use Rattle.messages.specs.Metadata.{field_kind, metadata_in}
use Rattle.messages.specs.Notice.{code_is, code_of}
use Rattle.messages.specs.Places.{name_of as command_name, argument_of, first_of, data_at, placed}
use Rattle.messages.specs.declared.ids.RtmpTimestamp.{RtmpTimestamp}
use Rattle.bodies.specs.Bodies.{connect_body, create_stream_body, delete_stream_body, play_body, publish_body, control_body}
use Rattle.bodies.specs.MetadataBody.{whole_prop, rate_prop, flag_prop, text_prop, metadata_props, metadata_body}
use Rattle.requests.specs.Places.{open_count, lookup, without, first_free, free_place_is, put, has_number, place_sound, places_sound}
use Rattle.requests.specs.Table.{none, requests_sound, asked, closed}
use Rattle.requests.specs.Texts.{fits, text_of as stored_text, text_sound, stored}
use Rattle.requests.specs.declared.outstanding_transaction.OutstandingTransaction.{OutstandingTransaction}
use Rattle.requests.specs.declared.outstanding_transaction.OutstandingTransaction.TheVariants.{ConnectionRequested, CreateStream}
use Rattle.requests.specs.declared.outstanding_transaction.TransactionPurpose.TheVariants.{PlayRequest, PublishRequest}
use Rattle.requests.specs.declared.table.Requests.{Requests}
use Rattle.session.specs.Calls.{Call, connect, play, publish, stop_playback, stop_publishing, ping, picture, sound, metadata, bytes, message, plain, sends, one}
use Rattle.session.specs.Outcomes.{in_turn, sent_by, bodies, outcome_of}
use Rattle.session.specs.Record.{default_config, texts_sound, is_session, fresh, open_of, with_requests}
use Rattle.session.specs.Plan.{Plan, go, Check, in_order, is_connected, unless_stage, if_long, if_spent, if_eight_open, connect_next, create_next, request, stop, published, ping_plan, count}
use Rattle.session.specs.Message.{on_message}
use Rattle.session.specs.Step.{unless_disconnected, plan, Stepped, away, fitted, step}
use Rattle.session.specs.Runs.{Line, line, Run, run, Seen, answered, ended, played, shown_by, stated_by, rows}
use Rattle.session.specs.declared.errors.ClientSessionError.TheVariants.{NotASession}
use Rattle.session.specs.declared.record.ClientSession.{ClientSession}

-- ---- which free place a request takes is sealed, and where a run is computed it is the first

module _ (s : ClientSession) (clock : RtmpTimestamp) where
  abbrev asked_first : Requests → OutstandingTransaction → List ℕ → Requests
  asked_first r k t =
      record { next = r.next + 1; places = set r.places (first_free r.places) (record { request = Some (record { 0 = r.next }, k); text = stored t }) }

  asked-first : (r : Requests) (k : OutstandingTransaction) (t : List ℕ) → asked r k t ≡ asked_first r k t
  unfolding asked put
  asked-first r k t = rw (free_place_is r.places)

  abbrev request_first : Check → OutstandingTransaction → List ℕ → List ℕ → Plan
  request_first own k t body =
      in_order (own ∷ if_long t ∷ if_spent s ∷ if_eight_open s ∷ []) (go (one (sends (plain 20 clock body))) (with_requests s (asked_first s.requests k t)))

  request-first : (own : Check) (k : OutstandingTransaction) (t body : List ℕ) → request s clock own k t body ≡ request_first own k t body
  unfolding request
  request-first own k t body = rw (asked-first s.requests k t)

  abbrev plan_first : Call → Plan
  plan_first (connect app) = request_first (unless_disconnected s) ConnectionRequested app (connect_next s app)
  plan_first (play key) = request_first (unless_stage is_connected s) (CreateStream PlayRequest) key (create_next s)
  plan_first (publish key t) = request_first (unless_stage is_connected s) (CreateStream (PublishRequest t)) key (create_next s)
  plan_first stop_playback = plan s clock stop_playback
  plan_first stop_publishing = plan s clock stop_publishing
  plan_first ping = plan s clock ping
  plan_first (picture b t d) = plan s clock (picture b t d)
  plan_first (sound b t d) = plan s clock (sound b t d)
  plan_first (metadata m text) = plan s clock (metadata m text)
  plan_first (bytes n) = plan s clock (bytes n)
  plan_first (message k t x b) = plan s clock (message k t x b)

  plan-first : (c : Call) → plan s clock c ≡ plan_first c
  unfolding plan
  plan-first (connect app) = request-first _ _ app _
  plan-first (play key) = request-first _ _ key _
  plan-first (publish key t) = request-first _ _ key _
  plan-first stop_playback = refl
  plan-first stop_publishing = refl
  plan-first ping = refl
  plan-first (picture b t d) = refl
  plan-first (sound b t d) = refl
  plan-first (metadata m text) = refl
  plan-first (bytes n) = refl
  plan-first (message k t x b) = refl

  abbrev step_first : Call → List ℕ → Stepped
  step_first c old = cond (is_session s) (fitted s old (plan_first c)) (away NotASession s old)

  step-first : (c : Call) (old : List ℕ) → step s clock c old ≡ step_first c old
  unfolding step
  step-first c old = rw (plan-first c)

-- what a call shows, and then the others
abbrev shows : Stepped → List Seen → List Seen
shows t others = answered t.outcome t.output ∷ others

unfoldable played_first : ClientSession → List Line → List Seen
played_first s [] = ended s.progress s.link ∷ []
played_first s (line clock call space o left ∷ ls) =
    let t = step_first s (record { 0 = clock }) call (replicate space 255) in
    shows t (played_first t.session ls)

played-first : (s : ClientSession) (ls : List Line) → played s ls ≡ played_first s ls
unfolding played played_first
played-first s [] = refl
played-first s (line clock call space o left ∷ ls) =
    ap (λ t. shows t (played t.session ls)) (step-first s (record { 0 = clock }) call (replicate space 255))
    ∙ ap (λ others. shows (step_first s (record { 0 = clock }) call (replicate space 255)) others)
    (played-first (step_first s (record { 0 = clock }) call (replicate space 255)).session ls)

abbrev shown_first : Run → List Seen
shown_first (run start o ls g l) = answered start.outcome [] ∷ played_first start.session ls

shown-first : (r : Run) → shown_by r ≡ shown_first r
shown-first (run start o ls g l) = rw (played-first start.session ls)

-- ---- the table

computed : map shown_first rows ≡ map stated_by rows
unfolding played_first field uint digits same any_row octets utf8 narrowed marker_of marker text_of name_of properties values content value to_end text_bytes encode last_of properties_of properties_at text_place kind_after kind_at text_found text_of_property stretch limit_type bandwidth_of event_of user_control_of text_only number_only command_of after_zero data_of decode field_kind metadata_in code_is code_of command_name argument_of first_of data_at placed connect_body create_stream_body delete_stream_body play_body publish_body control_body whole_prop rate_prop flag_prop text_prop metadata_props metadata_body open_count lookup without first_free has_number place_sound places_sound none requests_sound closed fits stored_text text_sound stored in_turn sent_by bodies outcome_of default_config texts_sound is_session fresh open_of in_order stop published ping_plan count on_message plan fitted of_bits to_bits of_int round to_unsigned
computed = refl

each : (rs : List Run) → map shown_first rs ≡ map stated_by rs → (r : Run) → Memᴰ r rs → shown_by r ≡ stated_by r
each [] e r x'' = elim x'' [ ]
each (x ∷ xs) e r (Memᴰ.head p) = rw (p, shown-first x) (let f : shown_first x ≡ stated_by x = cc in f)
each (x ∷ xs) e r (Memᴰ.tail m) = each xs (let f : map shown_first xs ≡ map stated_by xs = cc in f) r m

pub runs : (r : Run) → Memᴰ r rows → shown_by r ≡ stated_by r
runs r m = each rows computed r m
