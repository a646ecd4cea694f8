-- Each row of the table of runs holds, by computation; and each run is a trace, so that what is shown of traces is shown of something.
-- Assumes nothing.
use Prim.Native.Nat.{ℕ, ◌+◌}
use mathlib.Core.Path.{◌≡◌, refl, ap, ◌∙◌}
use mathlib.Core.Bool.{cond}
use mathlib.Core.List.{List, [], ◌∷◌, map, Memᴰ}
use lib.Ieee.{of_bits, to_bits, of_int, round, to_unsigned}
use lib.ListN.{set, replicate}
use Rattle.std.specs.Prelude.{Some}
use Rattle.octets.specs.Parse.{field}
use Rattle.octets.specs.BigEndian.{uint, digits}
use Rattle.octets.specs.Compare.{same}
use Rattle.octets.specs.Utf8.{any_row, octets, utf8}
use Rattle.amf0.specs.Decode.{marker_of, marker, text_of, name_of, properties, values, content, value, to_end}
use Rattle.amf0.specs.Encode.{text_bytes, encode, encode_props, encode_values}
use Rattle.amf0.specs.Lookup.{last_of, properties_of, properties_at}
use Rattle.amf0.specs.Places.{text_place, kind_after, kind_at, text_found, text_of_property, stretch}
use Rattle.messages.specs.Incoming.{event_of, user_control_of, text_only, number_only, command_of, after_zero, decode}
use Rattle.messages.specs.Notice.{code_is, code_of}
use Rattle.messages.specs.Places.{name_of as command_name, argument_of, first_of, placed}
use Rattle.messages.specs.declared.ids.RtmpTimestamp.{RtmpTimestamp}
use Rattle.bodies.specs.Bodies.{connect_body, create_stream_body, delete_stream_body, play_body, publish_body, control_body}
use Rattle.bodies.specs.Sent.{command_in, requested, first_number, deletes}
use Rattle.requests.specs.Places.{open_count, lookup, without, first_free, free_place_is, put, has_number, place_sound, places_sound}
use Rattle.requests.specs.Table.{none, requests_sound, asked, closed}
use Rattle.requests.specs.Texts.{fits, text_of as stored_text, text_sound, stored}
use Rattle.requests.specs.declared.outstanding_transaction.OutstandingTransaction.{OutstandingTransaction}
use Rattle.requests.specs.declared.outstanding_transaction.OutstandingTransaction.TheVariants.{ConnectionRequested, CreateStream}
use Rattle.requests.specs.declared.outstanding_transaction.TransactionPurpose.TheVariants.{PlayRequest, PublishRequest}
use Rattle.requests.specs.declared.table.Requests.{Requests}
use Rattle.session.specs.Calls.{Call, connect, play, publish, stop_playback, stop_publishing, ping, picture, sound, metadata, bytes, message, plain, sends, one}
use Rattle.session.specs.Outcomes.{in_turn, sent_by, bodies, outcome_of}
use Rattle.session.specs.Record.{default_config, texts_sound, is_session, fresh, open_of, with_requests}
use Rattle.session.specs.Plan.{Plan, go, Check, in_order, is_connected, unless_stage, if_long, if_spent, if_eight_open, connect_next, create_next, request, stop, published, ping_plan, count}
use Rattle.session.specs.Message.{on_message}
use Rattle.session.specs.Step.{unless_disconnected, plan, Stepped, away, fitted, step}
use Rattle.session.specs.declared.errors.ClientSessionError.TheVariants.{NotASession}
use Rattle.session.specs.declared.record.ClientSession.{ClientSession}
use Rattle.session_laws.specs.Lines.{results_of, messages_in}
use Rattle.journal.specs.Rule.{number_sent, delete_sent, message_said, said_well, said, open_by, rule_open, mark_by, mark, found_or, latest, any_since, stage_by, stage_of, rule_stage, grant_at, active_of, rule_active}
use Rattle.journal.specs.Trace.{away_by, line_of, Trace, opened, called}
use Rattle.journal.specs.Runs.{Input, Ran, start, ran_by, run, end_of, Row, rows}

-- ---- a run is a trace

run-trace : (r : Ran) (is : List Input) → Trace r.session r.journal → Trace (run r is).session (run r is).journal
unfolding run
run-trace r [] p = p
run-trace r (i ∷ is) p =
    let clock : RtmpTimestamp = record { 0 = i.clock } in
    let old : List ℕ = replicate i.space 0 in
    let t = step r.session clock i.call old in
    run-trace (ran_by r i.call t) is
    (called p i.call clock old (record { outcome = t.outcome; session = t.session }) t.output (record { answers = refl; hands_back = refl; leaves = refl }))

pub ran : (is : List Input) → Trace (run start is).session (run start is).journal
unfolding open_of default_config texts_sound text_sound stored_text stored utf8 octets any_row
ran is = run-trace start is (opened default_config (open_of default_config) refl refl)

-- ---- computing: which free place a request takes is sealed, and where it is looked into, it is the first

module _ (s : ClientSession) (clock : RtmpTimestamp) where
  abbrev asked_first : Requests → OutstandingTransaction → List ℕ → Requests
  asked_first r k t =
      record { next = r.next + 1; places = set r.places (first_free r.places) (record { request = Some (record { 0 = r.next }, k); text = stored t }) }

  asked-first : (r : Requests) (k : OutstandingTransaction) (t : List ℕ) → asked r k t ≡ asked_first r k t
  unfolding asked put
  asked-first r k t = rw (free_place_is r.places)

  abbrev request_first : Check → OutstandingTransaction → List ℕ → List ℕ → Plan
  request_first own k t body =
      in_order (own ∷ if_long t ∷ if_spent s ∷ if_eight_open s ∷ []) (go (one (sends (plain 20 clock body))) (with_requests s (asked_first s.requests k t)))

  request-first : (own : Check) (k : OutstandingTransaction) (t body : List ℕ) → request s clock own k t body ≡ request_first own k t body
  unfolding request
  request-first own k t body = rw (asked-first s.requests k t)

  abbrev plan_first : Call → Plan
  plan_first (connect app) = request_first (unless_disconnected s) ConnectionRequested app (connect_next s app)
  plan_first (play key) = request_first (unless_stage is_connected s) (CreateStream PlayRequest) key (create_next s)
  plan_first (publish key t) = request_first (unless_stage is_connected s) (CreateStream (PublishRequest t)) key (create_next s)
  plan_first stop_playback = plan s clock stop_playback
  plan_first stop_publishing = plan s clock stop_publishing
  plan_first ping = plan s clock ping
  plan_first (picture b t d) = plan s clock (picture b t d)
  plan_first (sound b t d) = plan s clock (sound b t d)
  plan_first (metadata m text) = plan s clock (metadata m text)
  plan_first (bytes n) = plan s clock (bytes n)
  plan_first (message k t x b) = plan s clock (message k t x b)

  plan-first : (c : Call) → plan s clock c ≡ plan_first c
  unfolding plan
  plan-first (connect app) = request-first _ _ app _
  plan-first (play key) = request-first _ _ key _
  plan-first (publish key t) = request-first _ _ key _
  plan-first stop_playback = refl
  plan-first stop_publishing = refl
  plan-first ping = refl
  plan-first (picture b t d) = refl
  plan-first (sound b t d) = refl
  plan-first (metadata m text) = refl
  plan-first (bytes n) = refl
  plan-first (message k t x b) = refl

  abbrev step_first : Call → List ℕ → Stepped
  step_first c old = cond (is_session s) (fitted s old (plan_first c)) (away NotASession s old)

  step-first : (c : Call) (old : List ℕ) → step s clock c old ≡ step_first c old
  unfolding step
  step-first c old = rw (plan-first c)

unfoldable run_first : Ran → List Input → Ran
run_first r [] = r
run_first r (i ∷ is) = run_first (ran_by r i.call (step_first r.session (record { 0 = i.clock }) i.call (replicate i.space 0))) is

run-first : (r : Ran) (is : List Input) → run r is ≡ run_first r is
unfolding run run_first
run-first r [] = refl
run-first r (i ∷ is) =
    ap (λ t. run (ran_by r i.call t) is) (step-first r.session (record { 0 = i.clock }) i.call (replicate i.space 0))
    ∙ run-first (ran_by r i.call (step_first r.session (record { 0 = i.clock }) i.call (replicate i.space 0))) is

-- ---- the table

computed : map (λ r. end_of (run_first start r.calls)) rows ≡ map (λ r. r.ends) rows
unfolding field uint digits same any_row octets utf8 marker_of marker text_of name_of properties values content value to_end text_bytes encode encode_props encode_values last_of properties_of properties_at text_place kind_after kind_at text_found text_of_property stretch event_of user_control_of text_only number_only command_of after_zero decode code_is code_of command_name argument_of first_of placed connect_body create_stream_body delete_stream_body play_body publish_body control_body command_in requested first_number deletes open_count lookup without first_free has_number place_sound places_sound none requests_sound closed fits stored_text text_sound stored in_turn sent_by bodies outcome_of default_config texts_sound is_session fresh open_of in_order stop published ping_plan count on_message plan fitted away_by results_of messages_in line_of number_sent delete_sent message_said said_well said open_by rule_open mark_by mark found_or latest any_since stage_by stage_of rule_stage grant_at active_of rule_active run_first of_bits to_bits of_int round to_unsigned
computed = refl

at : (rs : List Row) (r : Row) → map (λ r. end_of (run_first start r.calls)) rs ≡ map (λ r. r.ends) rs → Memᴰ r rs → end_of (run start r.calls) ≡ r.ends
at [] r e x'' = elim x'' [ ]
at (x ∷ xs) r e (Memᴰ.head q) = rw (q, run-first start x.calls) (let f : end_of (run_first start x.calls) ≡ x.ends = cc in f)
at (x ∷ xs) r e (Memᴰ.tail m) = at xs r (let f : map (λ r. end_of (run_first start r.calls)) xs ≡ map (λ r. r.ends) xs = cc in f) m

pub runs : (r : Row) → Memᴰ r rows → end_of (run start r.calls) ≡ r.ends
runs r m = at rows r computed m
