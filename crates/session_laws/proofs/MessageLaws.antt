-- Messages that came: what the plan of each comes to, case by case.
-- Assumes nothing.
use Prim.Native.Nat.{ℕ, ◌<◌}
use native.Mathlib.Omega.{arith}
use mathlib.Core.Path.{◌≡◌, refl, sym, ap, subst, ◌∙◌}
use mathlib.Core.Logic.{◌≢◌, ◌⊎◌, inl, inr, ⊎_elim}
use mathlib.Core.Bool.{false, not}
use mathlib.Core.List.{List, [], ◌∷◌}
use lib.ListN.{length}
use borrow.Author.Tests.{not-true, not-false}
use Rattle.std.specs.Prelude.{Result, Option, Some, None}
use Rattle.octets.specs.Compare.{ascii, same}
use Rattle.octets.specs.Parse.{place_of}
use Rattle.octets.proofs.CompareLaws.{same-ne}
use Rattle.numbers.specs.Numbers.{held}
use Rattle.messages.specs.Incoming.{Incoming, malformed, set_chunk_size, abort, acknowledgement, window_size, peer_bandwidth, user_control, command, values, audio, video, unknown, Command, decode}
use Rattle.messages.specs.Places.{name_of, first_of, command_at, data_at, placed}
use Rattle.messages.proofs.MeaningLaws.{command-stands, CodeSays, no_code, play-start, publish-start, other-code, code-says}
use Rattle.messages.specs.declared.ids.RtmpTimestamp.{RtmpTimestamp}
use Rattle.messages.specs.declared.ids.StreamNumber.{StreamNumber}
use Rattle.messages.specs.declared.on_status.OnStatus.{OnStatus}
use Rattle.messages.specs.declared.on_status.OnStatus.TheVariants as status
use Rattle.messages.specs.declared.rtmp_message.Argument.{Argument}
use Rattle.messages.specs.declared.rtmp_message.Argument.TheVariants as argument
use Rattle.messages.specs.declared.rtmp_message.CommandName.{CommandName}
use Rattle.messages.specs.declared.rtmp_message.CommandName.TheVariants as name
use Rattle.messages.specs.declared.rtmp_message.DataMessage.{DataMessage}
use Rattle.messages.specs.declared.rtmp_message.DataMessage.TheVariants as said
use Rattle.messages.specs.declared.rtmp_message.UserControlEvent.{UserControlEvent}
use Rattle.messages.specs.declared.rtmp_message.UserControlEvent.TheVariants.{StreamBegin, StreamEof, StreamDry, SetBufferLength, StreamIsRecorded, PingRequest, PingResponse}
use Rattle.requests.specs.Places.{lookup}
use Rattle.requests.specs.declared.place.Request.{Request}
use Rattle.requests.specs.declared.outstanding_transaction.OutstandingTransaction.{OutstandingTransaction}
use Rattle.requests.specs.declared.outstanding_transaction.OutstandingTransaction.TheVariants.{ConnectionRequested, CreateStream}
use Rattle.requests.specs.declared.outstanding_transaction.TransactionPurpose.{TransactionPurpose}
use Rattle.requests.specs.declared.outstanding_transaction.TransactionPurpose.TheVariants.{PlayRequest, PublishRequest}
use Rattle.requests.proofs.BoolLaws.{by_cases}
use Rattle.session.specs.Calls.{Call, message, Results}
use Rattle.session.specs.Message.{stream_number, is_play_requested, is_publish_requested, is_active, if_active, media_in, data_in, control_in, chunk_in, command_of, result_to, result_of, granted, error_to, error_of, noticed, on_message}
use Rattle.session.specs.Outcomes.{in_turn, sent_by, bodies, output}
use Rattle.session.specs.Plan.{Plan, go, Check, in_order, is_play, if_large, unless_stage}
use Rattle.session.specs.Step.{fitted, plan}
use Rattle.session.specs.declared.errors.ClientSessionError.{ClientSessionError}
use Rattle.session.specs.declared.errors.ClientSessionError.TheVariants.{SessionInInvalidState, CreateStreamFailed, CreateStreamResponseHadNoStreamNumber, InvalidOnStatusArguments, InvalidMaxChunkSize, MalformedBody, Space}
use Rattle.session.specs.declared.events.ClientSessionEvent.{ClientSessionEvent}
use Rattle.session.specs.declared.events.ClientSessionEvent.TheVariants.{AudioDataReceived, VideoDataReceived}
use Rattle.session.specs.declared.record.ClientSession.{ClientSession}
use Rattle.session.specs.declared.result.Outcome.{Outcome}
use Rattle.session.specs.declared.state.ClientState.TheVariants.{PlayRequested, Playing, PublishRequested}
use Rattle.session_laws.specs.Order.{Row, ◌if◌}
use Rattle.session_laws.specs.Conditions.{stage, Named, RepliesTo, code, NoNumber, WrongStage, play_start, publish_start, sound_in, picture_in, NotCreated, error, NoStreamNumber, result, BadNotice, notice, PeerChunk, large}
use Rattle.session_laws.specs.Space.{Takes, Answers, accepts, grants_play, grants_publish, responds, answers, Short}
use Rattle.session_laws.specs.Refusals.{between}
use Rattle.session_laws.proofs.DecideLaws.{Decides, clash, decides_as, decides_lt, decides_play-requested, decides-publish-requested, decides_play}
use Rattle.session_laws.proofs.OrderLaws.{Fate, hit, miss, planned, answer, checked, last, space}
use Rattle.session_laws.proofs.SortLaws.{name_sort, sort, result-sort, error_sort, notice-sort, wrong_sort, uncreated_sort, unnumbered_sort, bad-sort, peer_sort}
use Rattle.session_laws.proofs.AnswerLaws.{Spelt, spelt, is_number, first-number, grant_size, here, comes-command, comes-result, comes-open, comes-grant, accept_takes, grant-takes, ping_takes, takes-is}

module _ (s : ClientSession) (clock : RtmpTimestamp) (old : List ℕ) (k : ℕ) (t : RtmpTimestamp) (x : StreamNumber) (b : List ℕ) where
  abbrev it : Call
  it = message k t x b

  -- what it comes to
  abbrev now : Plan
  now = here s clock k t x b

  -- the rows after 13 and 9, from the last one on
  abbrev from12 : List Row
  from12 = Space if Short s it old ∷ []

  abbrev from7 : List Row
  from7 = InvalidMaxChunkSize if PeerChunk k b ∷ from12

  abbrev from6 : List Row
  from6 = InvalidOnStatusArguments if BadNotice k b ∷ from7

  abbrev from5 : List Row
  from5 = CreateStreamResponseHadNoStreamNumber if NoStreamNumber s k b ∷ from6

  abbrev from4 : List Row
  from4 = CreateStreamFailed if NotCreated s k b ∷ from5

  abbrev from2 : List Row
  from2 = SessionInInvalidState (stage s) if WrongStage s k b ∷ from4

  abbrev from8 : List Row
  from8 = MalformedBody if (decode k b ≡ malformed) ∷ from2

  -- rows that are another sort's
  module _ {o : Result Outcome ClientSessionError} where
    skip8 : (sort (decode k b) ≡ 0 → ⊥) → Fate from2 o → Fate from8 o
    skip8 n f = miss (λ w. n (ap sort w)) f

    skip2 : sort (decode k b) < 7 → Fate from4 o → Fate from2 o
    skip2 n f = miss (λ w. omega (arith, wrong_sort w)) f

    skip4 : (sort (decode k b) ≡ 3 → ⊥) → Fate from5 o → Fate from4 o
    skip4 n f = miss (λ w. n (uncreated_sort w)) f

    skip5 : (sort (decode k b) ≡ 2 → ⊥) → Fate from6 o → Fate from5 o
    skip5 n f = miss (λ w. n (unnumbered_sort w)) f

    skip6 : (sort (decode k b) ≡ 7 → ⊥) → Fate from7 o → Fate from6 o
    skip6 n f = miss (λ w. n (bad-sort w)) f

    skip7 : (sort (decode k b) ≡ 4 → ⊥) → Fate from12 o → Fate from7 o
    skip7 n f = miss (λ w. n (peer_sort w)) f

  taken : {n : ℕ} → Takes s it n → n ≡ planned now
  taken (answers _ _ _ _ n w) = takes-is s clock k t x b n w

  -- refusal 12 of what answers with so much, or with nothing
  takes : (rs : Results) (after : ClientSession) → now ≡ go rs after → Answers s k b (length (output rs)) → Fate from12 (answer s old (go rs after))
  takes rs after e w = space s old it rs after (λ l. answers k t x b _ w) (λ n v. taken v ∙ ap planned e)

  takes_none : (rs : Results) (after : ClientSession) → now ≡ go rs after → length (output rs) ≡ 0 → Fate from12 (answer s old (go rs after))
  takes_none rs after e z = space s old it rs after (λ l. absurd (omega arith)) (λ n v. taken v ∙ ap planned e)

  -- `_result`
  module _ {c : Command} (m : Named k b (ascii "_result") c) where
    -- refusal 5 is about this command
    is-open : NoStreamNumber s k b → (q : Request) × (p : TransactionPurpose) × RepliesTo s c q (CreateStream p) × NoNumber c.args
    is-open (result d q p n o w) =
        let e : d ≡ c = cc in (q, p, subst (λ d. RepliesTo s d q (CreateStream p)) e o, subst (λ d. NoNumber d.args) e w)

    grants : {q : Request} (p : TransactionPurpose) {v : ℕ} → RepliesTo s c q (CreateStream p) → first_of c.args ≡ Some (argument.Number v) →
        Answers s k b (grant_size p q.text)
    grants {q} PlayRequest {v} o e = let w = is_number c.args v e in grants_play c q v w.0 m o w.1
    grants {q} (PublishRequest p) {v} o e = let w = is_number c.args v e in grants_publish c q p v w.0 m o w.1

    no_number : {a : Option Argument} → first_of c.args ≡ a → ((n : ℕ) → a ≢ Some (argument.Number n)) → NoNumber c.args
    no_number e d n others h = d n (sym e ∙ first-number c.args n others h)

    granting : {q : Request} (p : TransactionPurpose) → RepliesTo s c q (CreateStream p) → (a : Option Argument) → first_of c.args ≡ a →
        Fate from5 (answer s old (granted s clock b (held c.number) p q.text (stream_number a)))
    unfolding fitted
    granting {q} p o (Some (argument.Number v)) e =
        let h = result-sort m in
        let w = is_number c.args v e in
        let z = grant-takes s clock k t x b (held c.number) p q.text v in
        miss (λ r. (is-open r).3 v w.0 w.1)
        (skip6 (omega arith) (skip7 (omega arith) (takes _ _ (comes-grant s clock k t x b m o e) (rw z (grants p o e)))))
    granting {q} p o None e = hit (result c q p m o (no_number e (λ n h. clash (cc)))) refl
    granting {q} p o (Some argument.Object) e = hit (result c q p m o (no_number e (λ n h. clash (cc)))) refl
    granting {q} p o (Some argument.Other) e = hit (result c q p m o (no_number e (λ n h. clash (cc)))) refl

    resulting_of : {q : Request} (kd : OutstandingTransaction) → RepliesTo s c q kd →
        Fate from5 (answer s old (result_of s clock b (command_at b c) (held c.number) kd q.text))
    resulting_of {q} ConnectionRequested o =
        let h = result-sort m in
        let z = accept_takes s clock k t x b (held c.number) in
        miss (λ r. not_that r o)
        (skip6 (omega arith) (skip7 (omega arith) (takes _ _ (comes-open s clock k t x b m o) (rw z (accepts c q m o)))))
      where
        not_that : NoStreamNumber s k b → RepliesTo s c q ConnectionRequested → ⊥
        not_that r o =
            let g = (is-open r).2.found in
            let d = (is-open r).2.kind in
            let f = o.found in
            let e = o.kind in
            let j : (is-open r).0 ≡ q = cc in clash (cc)
    resulting_of (CreateStream p) o = granting p o (first_of c.args) refl

    resulting : (o : Option Request) → lookup (held c.number) s.requests.places ≡ o →
        Fate from5 (answer s old (result_to s clock b (command_at b c) (held c.number) o))
    unfolding in_turn sent_by bodies
    resulting None f =
        let h = result-sort m in
        miss (λ r. let g = (is-open r).2.found in clash (cc))
        (skip6 (omega arith) (skip7 (omega arith) (takes_none _ _ (comes-result s clock k t x b m f) refl)))
    resulting (Some q) f = resulting_of q.kind (record { found = f; kind = refl })

  -- `_error`
  module _ {c : Command} (m : Named k b (ascii "_error") c) where
    is-failed : NotCreated s k b → (q : Request) × (p : TransactionPurpose) × RepliesTo s c q (CreateStream p)
    is-failed (error d q p n o) = let e : d ≡ c = cc in (q, p, subst (λ d. RepliesTo s d q (CreateStream p)) e o)

    comes-error : {o : Option Request} → lookup (held c.number) s.requests.places ≡ o →
        now ≡ error_to s clock b (command_at b c) (held c.number) o
    unfolding name_of same
    comes-error h =
        comes-command s clock k t x b m.says (ap name_of m.named) ∙ ap (error_to s clock b (command_at b c) (held c.number)) h

    failing_of : {q : Request} (kd : OutstandingTransaction) → RepliesTo s c q kd →
        Fate from4 (answer s old (error_of s clock b (command_at b c) (held c.number) kd))
    unfolding fitted in_turn sent_by bodies
    failing_of {q} ConnectionRequested o =
        let h = error_sort m in
        let z = comes-error o.found ∙ ap (error_of s clock b (command_at b c) (held c.number)) o.kind in
        miss (λ r. not_that r o) (skip5 (omega arith) (skip6 (omega arith) (skip7 (omega arith) (takes_none _ _ z refl))))
      where
        not_that : NotCreated s k b → RepliesTo s c q ConnectionRequested → ⊥
        not_that r o =
            let g = (is-failed r).2.found in
            let d = (is-failed r).2.kind in
            let f = o.found in
            let e = o.kind in
            let j : (is-failed r).0 ≡ q = cc in clash (cc)
    failing_of {q} (CreateStream p) o = hit (error c q p m o) refl

    failing : (o : Option Request) → lookup (held c.number) s.requests.places ≡ o →
        Fate from4 (answer s old (error_to s clock b (command_at b c) (held c.number) o))
    unfolding in_turn sent_by bodies
    failing None f =
        let h = error_sort m in
        miss (λ r. let g = (is-failed r).2.found in clash (cc))
        (skip5 (omega arith) (skip6 (omega arith) (skip7 (omega arith) (takes_none _ _ (comes-error f) refl))))
    failing (Some q) f = failing_of q.kind (record { found = f; kind = refl })

  -- a single check, and then nothing is sent
  unchecked : (j : Check) (p : Plan) → j.when ≡ false → in_order (j ∷ []) p ≡ p
  unfolding in_order
  unchecked j p h = rw h

  one-check : (j : Check) (rs : Results) (after : ClientSession) {w : Type 0} {rows : List Row} → Decides j.when w →
      now ≡ in_order (j ∷ []) (go rs after) → length (output rs) ≡ 0 → ((o : Result Outcome ClientSessionError) → Fate from12 o → Fate rows o) →
      Fate (j.says if w ∷ rows) (answer s old (in_order (j ∷ []) (go rs after)))
  one-check j rs after d e z more = checked s old j _ _ d λ h. last s old _ (more _ (takes_none rs after (e ∙ unchecked j _ h) z))

  -- `onStatus`
  module _ {c : Command} (m : Named k b (ascii "onStatus") c) where
    starts : WrongStage s k b →
        ((code c ≡ Some (ascii "NetStream.Play.Start")) × (stage s ≢ PlayRequested))
        ⊎ ((code c ≡ Some (ascii "NetStream.Publish.Start")) × (stage s ≢ PublishRequested))
    starts (play_start d n h g) = let e : d ≡ c = cc in inl (ap code (sym e) ∙ h, g)
    starts (publish_start d n h g) = let e : d ≡ c = cc in inr (ap code (sym e) ∙ h, g)
    starts (sound_in e g h) = absurd (omega (arith, ap sort e, notice-sort m))
    starts (picture_in e g h) = absurd (omega (arith, ap sort e, notice-sort m))

    is-bad : BadNotice k b → code c ≡ None
    is-bad (notice d n h) = let e : d ≡ c = cc in ap code (sym e) ∙ h

    -- after 2, for a notice with a code
    coded : {o : Result Outcome ClientSessionError} {u : List ℕ} → code c ≡ Some u → Fate from12 o → Fate from4 o
    coded e f =
        let h = notice-sort m in
        skip4 (omega arith) (skip5 (omega arith) (miss (λ w. let z = is-bad w in clash (cc)) (skip7 (omega arith) f)))

    other-start : Some (ascii "NetStream.Play.Start") ≡ Some (ascii "NetStream.Publish.Start") → ⊥
    unfolding same
    other-start e = same-ne (ascii "NetStream.Play.Start") (ascii "NetStream.Publish.Start") refl (cc)

    play_decides : code c ≡ Some (ascii "NetStream.Play.Start") → Decides (not (is_play_requested (stage s))) (WrongStage s k b)
    play_decides e =
        let d = decides_play-requested (stage s) in
        record {
          holds = λ h. play_start c m e (d.holds h);
          fails = λ h w. ⊎_elim (λ v. d.fails h v.1) (λ v. other-start (sym e ∙ v.0)) (starts w);
        }

    publish-decides : code c ≡ Some (ascii "NetStream.Publish.Start") → Decides (not (is_publish_requested (stage s))) (WrongStage s k b)
    publish-decides e =
        let d = decides-publish-requested (stage s) in
        record {
          holds = λ h. publish_start c m e (d.holds h);
          fails = λ h w. ⊎_elim (λ v. other-start (sym v.0 ∙ e)) (λ v. d.fails h v.1) (starts w);
        }

    noticing : {o : Option (List ℕ)} (g : Option OnStatus) → CodeSays b o g → code c ≡ o → now ≡ noticed s clock b g →
        Fate from2 (answer s old (noticed s clock b g))
    unfolding fitted in_turn sent_by bodies
    noticing None no_code e f =
        let h = notice-sort m in
        miss (λ w. ⊎_elim (λ v. let q = v.0 in clash (cc)) (λ v. let q = v.0 in clash (cc)) (starts w))
        (skip4 (omega arith) (skip5 (omega arith) (hit (notice c m e) refl)))
    noticing (Some status.PlayStart) play-start e f = one-check (unless_stage is_play_requested s) _ _ (play_decides e) f refl (λ o. coded {o = o} e)
    noticing (Some status.PublishStart) publish-start e f = one-check (unless_stage is_publish_requested s) _ _ (publish-decides e) f refl (λ o. coded {o = o} e)
    noticing (Some (status.Other w)) (other-code {t = u} l p q) e f =
        miss (λ w. ⊎_elim (λ v. let j = v.0 in p (cc)) (λ v. let j = v.0 in q (cc)) (starts w)) (coded e (takes_none _ _ f refl))

  -- others
  quiet : {o : Result Outcome ClientSessionError} → sort (decode k b) ≡ 5 → Fate from12 o → Fate from8 o
  quiet h f = skip8 (omega arith) (skip2 (omega arith) (skip4 (omega arith) (skip5 (omega arith) (skip6 (omega arith) (skip7 (omega arith) f)))))

  commands : {c : Command} → decode k b ≡ command c → (nm : CommandName) → name_of c.name ≡ nm → Spelt c.name nm →
      Fate from8 (answer s old (command_of s clock b (command_at b c) nm))
  unfolding in_turn sent_by bodies
  commands {c} e name.Result h w =
      let m : Named k b (ascii "_result") c = record { says = e; named = w } in
      let r = result-sort m in
      skip8 (omega arith) (skip2 (omega arith) (skip4 (omega arith) (resulting m _ refl)))
  commands {c} e name.Error h w =
      let m : Named k b (ascii "_error") c = record { says = e; named = w } in
      let r = error_sort m in
      skip8 (omega arith) (skip2 (omega arith) (failing m _ refl))
  commands {c} e name.OnStatus h w =
      let m : Named k b (ascii "onStatus") c = record { says = e; named = w } in
      let r = notice-sort m in
      let st = command-stands k b c e in
      skip8 (omega arith) (noticing m _ (rw st.args_at at (code-says b c st)) refl (comes-command s clock k t x b e h))
  commands {c} e name.Other h w = quiet (ap sort e ∙ ap name_sort h) (takes_none _ _ (comes-command s clock k t x b e h) refl)

  if-active : (v : ClientSessionEvent) → now ≡ if_active s clock b x v → Fate from12 (answer s old (if_active s clock b x v))
  unfolding in_turn sent_by bodies
  if-active v f =
      by_cases (is_active s.progress.active x) (λ h. rw h (takes_none _ _ (rw h at f) refl)) (λ h. rw h (takes_none _ _ (rw h at f) refl))

  -- pictures and sound: `wrong` is refusal 2's case for this kind
  module _ (h : sort (decode k b) ≡ 8) (wrong : stage s ≢ PlayRequested → stage s ≢ Playing → WrongStage s k b) where
    at_stage : (stage s ≡ PlayRequested) ⊎ (stage s ≡ Playing) → WrongStage s k b → ⊥
    at_stage w (play_start c n g d) = omega (arith, notice-sort n)
    at_stage w (publish_start c n g d) = omega (arith, notice-sort n)
    at_stage w (sound_in q g d) = ⊎_elim g d w
    at_stage w (picture_in q g d) = ⊎_elim g d w

    media_decides : Decides (not (is_play (stage s))) (WrongStage s k b)
    media_decides =
        let d = decides_play (stage s) in
        record {
          holds = λ p. let n = d.fails (not-true _ p) in wrong (λ g. n (inl g)) (λ g. n (inr g));
          fails = λ p. at_stage (d.holds (not-false _ p));
        }

    heard : (v : ClientSessionEvent) → now ≡ media_in s clock b x v → Fate from8 (answer s old (media_in s clock b x v))
    heard v f =
        skip8 (omega arith)
        (checked s old (unless_stage is_play s) _ _ media_decides λ p.
        last s old _
        (skip4 (omega arith) (skip5 (omega arith) (skip6 (omega arith) (skip7 (omega arith)
        (if-active v (f ∙ unchecked (unless_stage is_play s) _ p)))))))

  events : (v : UserControlEvent) → decode k b ≡ user_control v → now ≡ control_in s clock b v → Fate from8 (answer s old (control_in s clock b v))
  unfolding in_turn sent_by bodies
  events (PingRequest at) e f =
      let h = ap sort e in
      skip8 (omega arith) (skip2 (omega arith) (skip4 (omega arith) (skip5 (omega arith) (skip6 (omega arith) (skip7 (omega arith)
      (takes _ _ f (rw (ping_takes s clock k t x b at) (responds at e))))))))
  events (PingResponse at) e f = quiet (ap sort e) (takes_none _ _ f refl)
  events (StreamBegin y) e f = quiet (ap sort e) (takes_none _ _ f refl)
  events (StreamEof y) e f = quiet (ap sort e) (takes_none _ _ f refl)
  events (StreamDry y) e f = quiet (ap sort e) (takes_none _ _ f refl)
  events (SetBufferLength y n) e f = quiet (ap sort e) (takes_none _ _ f refl)
  events (StreamIsRecorded y) e f = quiet (ap sort e) (takes_none _ _ f refl)

  told : (d : DataMessage) → sort (decode k b) ≡ 5 → now ≡ data_in s clock b x d → Fate from8 (answer s old (data_in s clock b x d))
  unfolding in_turn sent_by bodies
  told said.Other h f = quiet h (takes_none _ _ f refl)
  told (said.OnMetaData p) h f = quiet h (if-active _ f)

  peer-is : {n : ℕ} → decode k b ≡ set_chunk_size n → PeerChunk k b → 2147483647 < n
  peer-is {n} e (large m f l) = let q : m ≡ n = cc in omega arith

  sized : (n : ℕ) → decode k b ≡ set_chunk_size n → now ≡ chunk_in s clock b n → Fate from8 (answer s old (chunk_in s clock b n))
  unfolding in_turn sent_by bodies
  sized n e f =
      let h = ap sort e in
      skip8 (omega arith) (skip2 (omega arith) (skip4 (omega arith) (skip5 (omega arith) (skip6 (omega arith)
      (one-check _ _ _ (decides_as (large n e) (peer-is e) (decides_lt 2147483647 n)) f refl (λ o g. g))))))

  arriving : (i : Incoming) → decode k b ≡ i → now ≡ on_message s clock b k t x (placed b i) →
      Fate from8 (answer s old (on_message s clock b k t x (placed b i)))
  unfolding fitted on_message placed in_turn sent_by bodies
  arriving malformed e f = hit e refl
  arriving (set_chunk_size n) e f = sized n e f
  arriving (abort n) e f = quiet (ap sort e) (takes_none _ _ f refl)
  arriving (acknowledgement n) e f = quiet (ap sort e) (takes_none _ _ f refl)
  arriving (window_size n) e f = quiet (ap sort e) (takes_none _ _ f refl)
  arriving (peer_bandwidth n l) e f = quiet (ap sort e) (takes_none _ _ f refl)
  arriving (user_control v) e f = events v e f
  arriving (command c) e f = commands e (name_of c.name) refl (spelt c.name)
  arriving (values d) e f = told (data_at (place_of b d.after_first) d.values) (ap sort e) f
  arriving audio e f = heard (ap sort e) (sound_in e) (AudioDataReceived t) f
  arriving video e f = heard (ap sort e) (picture_in e) (VideoDataReceived t) f
  arriving unknown e f = quiet (ap sort e) (takes_none _ _ f refl)

  pub came : Fate (between s it from12) (answer s old (plan s clock it))
  unfolding plan
  came = checked s old (if_large b) _ _ (decides_lt 16777215 (length b)) λ h. last s old _ (arriving (decode k b) refl refl)
