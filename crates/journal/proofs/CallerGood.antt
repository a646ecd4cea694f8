-- The caller's calls do what their lines say.
-- Assumes nothing.
use Prim.Native.Nat.{ℕ, ◌+◌}
use mathlib.Core.Logic.{◌⊎◌, inl, inr}
use mathlib.Core.Path.{◌≡◌, refl, sym, ap, ◌∙◌}
use mathlib.Core.Bool.{Bool, true, false, cond, ◌&&◌, ◌||◌, true≢false}
use mathlib.Core.List.Memᴰ
use mathlib.Core.List.{List, [], ◌∷◌}
use lib.Dec.{eqb, leb}
use Rattle.std.specs.Prelude.{Option, Some, None}
use Rattle.messages.specs.declared.ids.RtmpTimestamp.{RtmpTimestamp}
use Rattle.messages.specs.declared.ids.StreamNumber.{StreamNumber}
use Rattle.bodies.proofs.SentLaws.{delete_stream-deletes}
use Rattle.requests.specs.Places.{}
use Rattle.requests.specs.declared.place.Request.{Request}
use Rattle.requests.specs.Table.{requests_sound, eight_open, asked}
use Rattle.requests.specs.declared.outstanding_transaction.OutstandingTransaction.{OutstandingTransaction}
use Rattle.requests.proofs.BoolLaws.{by_cases, and_right}
use Rattle.requests.proofs.TableLaws.{asked-open}
use Rattle.session.specs.Calls.{Message}
use Rattle.session.specs.Numbers.{refusal_number}
use Rattle.session.specs.Outcomes.{in_turn, sent_by}
use Rattle.session.specs.Record.{texts_sound, chunk_sound, is_session, with_progress, with_requests}
use Rattle.session.specs.Plan.{Check, is_play, is_publish, is_publishing, unless_stage, if_long, if_spent, if_eight_open, request, stopped, stop, published_on, published, counted_by, count}
use Rattle.session.specs.declared.record.ClientSession.{ClientSession}
use Rattle.session.specs.declared.state.ClientState.{ClientState}
use Rattle.session.specs.declared.state.ClientState.TheVariants.{Disconnected, Connected, PlayRequested, Playing, PublishRequested, Publishing}
use Rattle.session_laws.specs.Sound.{Sound}
use Rattle.journal.specs.Rule.{nothing, deleted, open_by, number_sent, asked_for, delete_sent, stop_said}
use Rattle.journal.specs.Rule as rule
use Rattle.journal.specs.Demand.{active_number}
use Rattle.journal.proofs.RuleLaws.{stage_after, active_after}
use Rattle.journal.proofs.Good.{kind_of, Moves, no_picture, Carries, carries-none, View, mild, Good, good_order, passed, still, silent}

-- ---- requests

pub requests-sound : (s : ClientSession) → Sound s → requests_sound s.requests ≡ true
unfolding is_session
requests-sound s h = and_right (texts_sound s.config && chunk_sound s.config.chunk_size) (requests_sound s.requests) h.session

-- the kind of a request that was put in
kind-put : (b : Bool) (q : Request) (o : Option Request) → kind_of (cond b (Some q) o) ≡ cond b (Some q.kind) (kind_of o)
kind-put true q o = refl
kind-put false q o = refl

asks : (s : ClientSession) (k : OutstandingTransaction) (t : List ℕ) → Sound s → eight_open s.requests ≡ false
    → Moves s (rule.asked s.requests.next k) (with_requests s (asked s.requests k t))
unfolding stage_after active_after open_by
asks s k t h o =
    record {
      stage_moves = refl;
      active_moves = refl;
      open_moves = λ n. ap kind_of (asked-open s.requests (requests-sound s h) k t h.eight o n) ∙ kind-put (eqb s.requests.next n) _ _;
    }

abbrev pub asking : OutstandingTransaction → View
asking k = record { well = λ ms. asked_for k (number_sent ms); pictures = false; asking = 1 }

pub good-request : (s : ClientSession) (clock : RtmpTimestamp) (own : Check) (k : OutstandingTransaction) (t body : List ℕ) → Sound s
    → mild (refusal_number own.says) ≡ true → Good s (asking k) (request s clock own k t body)
unfolding request sent_by in_turn no_picture
good-request s clock own k t body h m =
    good_order s (asking k) (own ∷ if_long t ∷ if_spent s ∷ if_eight_open s ∷ []) _ (rw m) λ q.
    record { moves = λ n. rw (n refl) (asks s k t h q.1.1.1.0); carries = carries-none s false _ refl }

-- ---- stages with a stream

abbrev pub streaming : ClientState → Bool
streaming g = is_play g || is_publish g

idle : (g : ClientState) → streaming g ≡ true → (g ≡ Disconnected) ⊎ (g ≡ Connected) → ⊥
idle g e (inl q) = true≢false (sym e ∙ ap streaming q)
idle g e (inr q) = true≢false (sym e ∙ ap streaming q)

-- ---- stops

stops : (s : ClientSession) → Moves s deleted (with_progress s Connected None)
unfolding stage_after active_after open_by
stops s = record { stage_moves = refl; active_moves = refl; open_moves = λ n. refl }

abbrev pub stopping : View
stopping = record { well = stop_said; pictures = false; asking = 0 }

good-stopped : (s : ClientSession) (clock : RtmpTimestamp) (a : Option StreamNumber) → s.progress.active ≡ a → Sound s
    → streaming s.progress.state ≡ true → Good s stopping (stopped s clock a)
unfolding sent_by in_turn delete_sent no_picture
good-stopped s clock None q h g = absurd (idle s.progress.state g (h.streamed.idle q))
good-stopped s clock (Some x) q h g =
    record { moves = λ n. rw (delete_stream-deletes x.0 (h.streamed.below x q)) (stops s); carries = carries-none s false _ refl }

pub good-stop : (s : ClientSession) (clock : RtmpTimestamp) (own : ClientState → Bool) → Sound s
    → ((g : ClientState) → own g ≡ true → streaming g ≡ true) → Good s stopping (stop s clock own)
unfolding stop sent_by in_turn delete_sent no_picture
good-stop s clock own h f =
    by_cases (own s.progress.state)
    (λ e. rw e (good-stopped s clock s.progress.active refl h (f s.progress.state e)))
    (λ e. rw e (record { moves = λ n. still s s refl refl; carries = carries-none s false _ refl }))

pub play_streams : (g : ClientState) → is_play g ≡ true → streaming g ≡ true
play_streams g e = rw e

pub publish-streams : (g : ClientState) → is_publish g ≡ true → streaming g ≡ true
publish-streams g e = go (is_play g)
  where
    go : (b : Bool) → (b || is_publish g) ≡ true
    go true = refl
    go false = e

-- ---- what goes out at Publishing

publishing-streams : (g : ClientState) → is_publishing g ≡ true → streaming g ≡ true
publishing-streams Disconnected e = absurd (true≢false (sym e))
publishing-streams Connected e = absurd (true≢false (sym e))
publishing-streams PlayRequested e = refl
publishing-streams Playing e = refl
publishing-streams PublishRequested e = refl
publishing-streams Publishing e = refl

abbrev pub publishing : Bool → View
publishing is_one = record { well = λ ms. nothing; pictures = is_one; asking = 0 }

good-published-on : (s : ClientSession) (clock : RtmpTimestamp) (given : Check) (message : StreamNumber → Message) (is_one : Bool) (a : Option StreamNumber)
    → s.progress.active ≡ a → Sound s → streaming s.progress.state ≡ true → mild (refusal_number given.says) ≡ true
    → ((x : StreamNumber) → s.progress.active ≡ Some x → Carries s is_one (message x ∷ [])) → Good s (publishing is_one) (published_on s clock given message a)
unfolding sent_by in_turn
good-published-on s clock given message is_one None q h g m f = absurd (idle s.progress.state g (h.streamed.idle q))
good-published-on s clock given message is_one (Some x) q h g m f =
    good_order s (publishing is_one) (given ∷ []) _ (rw m) λ c. record { moves = λ n. still s s refl refl; carries = f x q }

pub good-published : (s : ClientSession) (clock : RtmpTimestamp) (given : Check) (message : StreamNumber → Message) (is_one : Bool) → Sound s
    → mild (refusal_number given.says) ≡ true → ((x : StreamNumber) → s.progress.active ≡ Some x → Carries s is_one (message x ∷ []))
    → Good s (publishing is_one) (published s clock given message)
unfolding published
good-published s clock given message is_one h m f =
    good_order s (publishing is_one) (unless_stage is_publishing s ∷ []) _ refl λ c.
    good-published-on s clock given message is_one s.progress.active refl h
    (publishing-streams s.progress.state (passed (is_publishing s.progress.state) c.0)) m f

-- a picture on the active stream
pub one-picture : (s : ClientSession) (x : StreamNumber) (m : Message) → s.progress.active ≡ Some x → m.stream ≡ x → Carries s true (m ∷ [])
one-picture s x m e q n i t = (refl, ap active_number e ∙ ap (λ y. Some y.0) (sym (ap (λ y. y.stream) (Memᴰ.eq_of_singleton i) ∙ q)))

-- ---- byte counts

good-counted-by : (s : ClientSession) (clock : RtmpTimestamp) (n : ℕ) (w : Option ℕ) → Good s (publishing false) (counted_by s clock n w)
unfolding sent_by in_turn no_picture
good-counted-by s clock n None = silent s _ _ refl refl refl
good-counted-by s clock n (Some w) =
    by_cases (leb w (s.link.pending + n)) (λ b. rw b (silent s _ _ refl refl refl)) (λ b. rw b (silent s _ _ refl refl refl))

pub good-count : (s : ClientSession) (clock : RtmpTimestamp) (n : ℕ) → Good s (publishing false) (count s clock n)
unfolding count
good-count s clock n = good-counted-by s clock n s.link.window
