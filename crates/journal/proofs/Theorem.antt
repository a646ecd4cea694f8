-- Demand 3 of every trace of the program, what holds beside it, and that the rule it speaks of is document 01's.
-- Assumes nothing.
use Prim.Native.Nat.{ℕ}
use mathlib.Core.Path.{◌≡◌, refl, sym, ap, ap₂, ◌∙◌, fun_ext, subst, subst₂}
use mathlib.Core.Logic.{◌≢◌}
use mathlib.Core.Bool.{true, false, true≢false}
use mathlib.Core.List.Memᴰ
use mathlib.Core.List.{List, [], ◌∷◌}
use native.Mathlib.Omega.{arith}
use Rattle.std.specs.Prelude.{Option, Some, None}
use Rattle.messages.specs.declared.ids.RtmpTimestamp.{RtmpTimestamp}
use Rattle.requests.specs.Places.{lookup}
use Rattle.requests.specs.declared.place.Request.{Request}
use Rattle.requests.specs.Table.{none as no_requests}
use Rattle.requests.specs.declared.outstanding_transaction.OutstandingTransaction.{OutstandingTransaction}
use Rattle.requests.proofs.BoolLaws.{by_cases}
use Rattle.requests.proofs.PlaceLaws.{opened as opened_place, found_in, in-found}
use Rattle.requests.proofs.TableLaws.{sound as sound-facts}
use Rattle.session.specs.Calls.{Call}
use Rattle.session.specs.Contract.{Does}
use Rattle.session.specs.Record.{texts_sound, chunk_sound, fresh, open_of}
use Rattle.session.specs.Step.{step}
use Rattle.session.specs.declared.config.ClientSessionConfig.{ClientSessionConfig}
use Rattle.session.specs.declared.record.Called.{Called}
use Rattle.session.specs.declared.record.ClientSession.{ClientSession}
use Rattle.session_laws.specs.Sound.{Sound}
use Rattle.session_laws.proofs.StepLaws.{from-opening, stays-sound}
use Rattle.journal.specs.Lines.{Line, Journal, Each}
use Rattle.journal.specs.Rule.{said, open_by, rule_open, latest, stage_of, rule_stage, active_of, rule_active}
use Rattle.journal.specs.Trace.{line_of, Trace, opened, called, request_borrowed, message_borrowed, bytes_borrowed}
use Rattle.journal.specs.Demand.{LineHolds, active_number, Holds, Demand3}
use Rattle.journal.specs.Beside.{given_in, NumberRises, SoundSession, Numbered, Acknowledged}
use Rattle.journal.proofs.EachLaws.{each_none, each_more}
use Rattle.journal.proofs.RuleLaws.{stage_after, active_after, stage-more, active-more, open_more, active-latest}
use Rattle.journal.proofs.Good.{kind_of, opens, spared}
use Rattle.journal.proofs.CallerGood.{requests-sound}
use Rattle.journal.proofs.CountLaws.{due-more, sends-due, bytes-first, bytes-more}
use Rattle.journal.proofs.StepLaws.{spared_by, Steps, line_for, steps, step-two}

-- ---- the session and the rule agree

record Agrees (s : ClientSession) (j : Journal) : Type 0 where
  stage_agrees : s.progress.state ≡ rule_stage j
  active_agrees : active_number s.progress.active ≡ rule_active j
  open_agrees : (n : ℕ) → opens s n ≡ rule_open j n
  sound : Sound s

agrees-more : (s after : ClientSession) (l : Line) (j : Journal) → Agrees s j → Steps s l after → Sound after → Agrees after (l ∷ j)
agrees-more s after l j a t h =
    let was : opens s ≡ rule_open j = fun_ext a.open_agrees in
    record {
      stage_agrees = t.moves.stage_moves ∙ ap₂ (stage_after (said l)) was a.stage_agrees ∙ sym (stage-more l j);
      active_agrees = t.moves.active_moves ∙ ap₂ (active_after (said l)) was a.active_agrees ∙ sym (active-more l j);
      open_agrees = λ n. t.moves.open_moves n ∙ ap (open_by (said l) n) (a.open_agrees n) ∙ sym (open_more l j n);
      sound = h;
    }

-- ---- each line

not_spared : (o : Option ℕ) (k : ℕ) → spared k ≡ false → spared_by o ≡ true → o ≢ Some k
not_spared o k h e q = true≢false (sym e ∙ ap spared_by q ∙ h)

line-holds : (s : ClientSession) (clock : RtmpTimestamp) (c : Call) (old : List ℕ) (j : Journal) → Agrees s j
    → Steps s (line_for c (step s clock c old)) (step s clock c old).session → LineHolds (line_for c (step s clock c old)) j
unfolding line_of
line-holds s clock c old j a t =
    record {
      refusal2 = λ h. rw (← a.stage_agrees) (step-two s old clock c a.sound h);
      from_picture = λ m p. (t.carries m p.among p.type9).0;
      on_active = λ m p. sym a.active_agrees ∙ (t.carries m p.among p.type9).1;
      on_grant = λ m p. active-latest j m.stream.0 (sym a.active_agrees ∙ (t.carries m p.among p.type9).1);
      never13 = not_spared _ 13 refl t.is_spared;
      never3 = not_spared _ 3 refl t.is_spared;
    }

-- ---- opening

-- where it isn't refused it hands back a new session
opening : (c : ClientSessionConfig) → (open_of c).session ≡ fresh c
unfolding open_of
opening c =
    by_cases (texts_sound c) (λ p. by_cases (chunk_sound c.chunk_size) (λ q. rw (p, q)) (λ q. rw (p, q))) (λ p. rw p)

fresh-agrees : (c : ClientSessionConfig) → Sound (fresh c) → Agrees (fresh c) []
unfolding fresh rule_stage stage_of rule_active active_of latest rule_open lookup no_requests
fresh-agrees c h = record { stage_agrees = refl; active_agrees = refl; open_agrees = λ n. refl; sound = h }

numbers-first : (c : ClientSessionConfig) → Numbered (fresh c) []
unfolding fresh given_in no_requests
numbers-first c = record { each = each_none NumberRises; due = refl }

-- ---- all of it

record All (s : ClientSession) (j : Journal) : Type 0 where
  agrees : Agrees s j
  lines : Each LineHolds j
  numbers : Numbered s j
  bytes : Acknowledged s j

all_more : (s : ClientSession) (clock : RtmpTimestamp) (c : Call) (old : List ℕ) (j : Journal) → All s j
    → All (step s clock c old).session (line_for c (step s clock c old) ∷ j)
all_more s clock c old j a =
    let n = sends-due s clock c old in
    let t = steps s c old clock a.agrees.sound n in
    record {
      agrees = agrees-more s _ _ j a.agrees t (stays-sound s clock c old a.agrees.sound);
      lines = each_more LineHolds _ j (line-holds s clock c old j a.agrees t) a.lines;
      numbers =
          record {
            each = each_more NumberRises _ j (λ h. n h ∙ ap Some a.numbers.due) a.numbers.each;
            due = due-more s clock c old j a.numbers.due;
          };
      bytes = bytes-more s clock c old j a.bytes;
    }

-- a call by its contract
all-called : {s : ClientSession} {j : Journal} → All s j → (c : Call) (clock : RtmpTimestamp) (old : List ℕ) (r : Called) (exit : List ℕ)
    → Does s clock c old r exit → All r.session (line_of c r.outcome exit ∷ j)
all-called {s} {j} a c clock old r exit d =
    subst₂ All (sym d.hands_back) (ap (λ l. l ∷ j) (sym (ap₂ (line_of c) d.answers d.leaves))) (all_more s clock c old j a)

all : {s : ClientSession} {j : Journal} → Trace s j → All s j
all (opened c r e o) =
    let h : Sound (open_of c).session = (from-opening c (sym (ap (λ x. x.outcome) e) ∙ o)).sound in
    let a : All (fresh c) [] =
    record {
      agrees = fresh-agrees c (subst Sound (opening c) h);
      lines = each_none LineHolds;
      numbers = numbers-first c;
      bytes = bytes-first c;
    } in
    subst (λ x. All x []) (sym (ap (λ x. x.session) e ∙ opening c)) a
all (called p c clock old r exit d) = all-called (all p) c clock old r exit d
all (request_borrowed p k text clock old o after exit d) = all-called (all p) _ clock old _ exit d
all (message_borrowed p k time x body clock old o after exit d) = all-called (all p) _ clock old _ exit d
all (bytes_borrowed p n clock old o after exit d) = all-called (all p) _ clock old _ exit d

-- ---- the record's places

held-open : (s : ClientSession) (h : Sound s) (n : ℕ) (k : OutstandingTransaction) → Holds s n k → opens s n ≡ Some k
held-open s h n k w =
    let here = Memᴰ.cast (ap (λ x. record { request = x; text = w.place.text }) (sym w.is)) w.among in
    ap kind_of
    (in-found s.requests.next n s.requests.places (record { kind = k; text = w.place.text })
    (sound-facts s.requests (requests-sound s h)).places here)

open-held : (s : ClientSession) (n : ℕ) (k : OutstandingTransaction) → opens s n ≡ Some k → Holds s n k
open-held s n k e = at (lookup n s.requests.places) refl e
  where
    at : (o : Option Request) → lookup n s.requests.places ≡ o → kind_of o ≡ Some k → Holds s n k
    at None q e = let z : ◌≡◌ {A = ℕ} 0 1 = cc in absurd (omega arith)
    at (Some r) q e =
        record {
          place = opened_place n r.kind r.text;
          among = found_in n s.requests.places q;
          is = let f : r.kind ≡ k = cc in ap (λ x. Some (record { 0 = n }, x)) f;
        }

-- ---- the theorems

pub demand_3 : (s : ClientSession) (j : Journal) → Trace s j → Demand3 s j
demand_3 s j p =
    let a = all p in
    record {
      stage_equal = a.agrees.stage_agrees;
      active_equal = a.agrees.active_agrees;
      open_equal =
          λ n k.
          (λ w. sym (a.agrees.open_agrees n) ∙ held-open s a.agrees.sound n k w, λ e. open-held s n k (a.agrees.open_agrees n ∙ e));
      lines = a.lines;
    }

pub sound-session : (s : ClientSession) (j : Journal) → Trace s j → SoundSession s j
sound-session s j p = record { sound = (all p).agrees.sound }

pub numbered : (s : ClientSession) (j : Journal) → Trace s j → Numbered s j
numbered s j p = (all p).numbers

pub acknowledged : (s : ClientSession) (j : Journal) → Trace s j → Acknowledged s j
acknowledged s j p = (all p).bytes
