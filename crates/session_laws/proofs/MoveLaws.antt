-- What each call's plan does to the session, read once: the other laws go by it.
-- Assumes nothing.
use Prim.Native.Nat.{ℕ, ◌+◌, ◌%◌, ◌^◌, ◌<◌}
use native.Mathlib.Omega.{arith}
use mathlib.Core.Path.{◌≡◌, refl, sym, ◌∙◌}
use mathlib.Core.Logic.{◌⊎◌, inr}
use mathlib.Core.Bool.{Bool, true, false, cond, ◌||◌, or-false}
use mathlib.Core.List.{List, [], ◌∷◌}
use lib.Dec.{leb}
use lib.ListN.{length}
use borrow.Author.Tests.{not-false, leb-false}
use Rattle.std.specs.Prelude.{Option, Some, None}
use Rattle.octets.proofs.BigEndianLaws.{be-digits}
use Rattle.messages.specs.declared.ids.RtmpTimestamp.{RtmpTimestamp}
use Rattle.messages.specs.declared.ids.StreamNumber.{StreamNumber}
use Rattle.requests.specs.Table.{requests_sound, asked}
use Rattle.requests.specs.declared.outstanding_transaction.OutstandingTransaction.{OutstandingTransaction}
use Rattle.requests.specs.declared.table.Requests.{Requests}
use Rattle.requests.proofs.BoolLaws.{by_cases}
use Rattle.requests.proofs.TableLaws.{length-asked, asked-sound}
use Rattle.session.specs.Calls.{Call, bytes, Message, Results, nothing}
use Rattle.session.specs.Outcomes.{in_turn, sent_by}
use Rattle.session.specs.Plan.{Plan, refuse, close, go, Check, in_order, if_long, if_spent, if_eight_open, request, stop, stopped, published, published_on, unless_stage, is_publishing, ping_plan, count, counted, counted_by}
use Rattle.session.specs.declared.errors.ClientSessionError.{ClientSessionError}
use Rattle.session.specs.declared.record.ClientSession.{ClientSession}
use Rattle.session.specs.declared.record.Link.{Link}
use Rattle.session.specs.declared.record.Progress.{Progress}
use Rattle.session.specs.declared.state.ClientState.{ClientState}
use Rattle.session.specs.declared.state.ClientState.TheVariants.{Disconnected, Connected}
use Rattle.session_laws.specs.Acknowledged.{sum, sets_window, counts, is_set}
use Rattle.session_laws.specs.Kept.{closes, ClosesBy}
use Rattle.session_laws.specs.Numbered.{asks}
use Rattle.session_laws.specs.Sound.{Streamed, Within, OfBytes}
use Rattle.session_laws.proofs.DecideLaws.{clash}

pub record Tabled (r : Requests) : Type 0 where
  pub sound : requests_sound r ≡ true
  pub eight : length r.places ≡ 8

-- from s to t, with these results
pub record Moved (s : ClientSession) (c : Call) (rs : Results) (t : ClientSession) : Type 0 where
  pub config : t.config ≡ s.config
  pub streamed : Streamed s.progress → Streamed t.progress
  pub requests : Tabled s.requests → Tabled t.requests
  pub next : t.requests.next ≡ s.requests.next + asks c
  pub total : s.link.total < 2 ^ 64 → t.link.total < 2 ^ 64
  pub within : OfBytes c → Within s.link → Within t.link
  pub sums : (sum (sent_by (in_turn rs)) + t.link.pending) % 2 ^ 32 ≡ (s.link.pending + cond (is_set s.link.window) (counts c) 0) % 2 ^ 32
  pub sets : is_set t.link.window ≡ (is_set s.link.window || sets_window c)

-- what a plan comes to
abbrev pub Good : ClientSession → Call → Plan → Type 0
Good s c (refuse e) = closes e ≡ false
Good s c (close e t) = (closes e ≡ true) × ClosesBy s c t × Moved s c nothing t
Good s c (go rs t) = Moved s c rs t

module _ (s : ClientSession) (c : Call) where
  good_or : (b : Bool) (e : ClientSessionError) (p : Plan) → closes e ≡ false → (b ≡ false → Good s c p) → Good s c (cond b (refuse e) p)
  good_or true e p h f = h
  good_or false e p h f = f refl

  pub good_check : (k : Check) (ks : List Check) (p : Plan) → closes k.says ≡ false → (k.when ≡ false → Good s c (in_order ks p)) →
      Good s c (in_order (k ∷ ks) p)
  unfolding in_order
  good_check k ks p h f = good_or k.when k.says (in_order ks p) h f

  pub good-last : (p : Plan) → Good s c p → Good s c (in_order [] p)
  unfolding in_order
  good-last p g = g

-- neither a request, nor a byte count, nor a window
pub record Quiet (c : Call) : Type 0 where
  pub asks_none : asks c ≡ 0
  pub counts_none : counts c ≡ 0
  pub sets_none : sets_window c ≡ false

pub no-count : (b : Bool) (n : ℕ) → n ≡ 0 → cond b n 0 ≡ 0
no-count true n e = e
no-count false n e = refl

abbrev with_chunk : Link → ℕ → Link
with_chunk l n = record { chunk = n; window = l.window; pending = l.pending; total = l.total }

-- the window, the pending count and the total stay
pub quiet :
    (s : ClientSession) (c : Call) (rs : Results) (p : Progress) (q : Requests) (chunk : ℕ) → Quiet c → sum (sent_by (in_turn rs)) ≡ 0 →
    (Streamed s.progress → Streamed p) → (Tabled s.requests → Tabled q) → q.next ≡ s.requests.next →
    Moved s c rs (record { config = s.config; progress = p; requests = q; link = with_chunk s.link chunk })
quiet s c rs p q chunk k z f g n =
    record {
      config = refl;
      streamed = f;
      requests = g;
      next = omega (arith, n, k.asks_none);
      total = λ h. h;
      within = λ o w. record { window_below = w.window_below; pending_below = w.pending_below };
      sums = rw (z, no-count (is_set s.link.window) (counts c) k.counts_none) (omega arith);
      sets = rw k.sets_none (sym (or-false (is_set s.link.window)));
    }

pub same : (s : ClientSession) (c : Call) (rs : Results) → Quiet c → sum (sent_by (in_turn rs)) ≡ 0 → Moved s c rs s
same s c rs k z = quiet s c rs s.progress s.requests s.link.chunk k z (λ h. h) (λ h. h) refl

-- at Connected, or at Disconnected, without a stream
pub streamless : (g : ClientState) → (g ≡ Disconnected) ⊎ (g ≡ Connected) → Streamed (record { state = g; active = None })
streamless g h = record { below = λ x e. clash (cc); idle = λ e. h }

module _ (s : ClientSession) (clock : RtmpTimestamp) (c : Call) where
  pub requested : (own : Check) (kind : OutstandingTransaction) (t body : List ℕ) →
      asks c ≡ 1 → counts c ≡ 0 → sets_window c ≡ false → closes own.says ≡ false →
      Good s c (request s clock own kind t body)
  unfolding request sum in_turn sent_by asked
  requested own kind t body a n w h =
      good_check s c own _ _ h λ p.
      good_check s c (if_long t) _ _ refl λ f.
      good_check s c (if_spent s) _ _ refl λ e.
      good_check s c (if_eight_open s) _ _ refl λ o.
      good-last s c _
      (record {
        config = refl;
        streamed = λ h. h;
        requests = λ r. record {
          sound = asked-sound s.requests r.sound kind t r.eight o e (not-false _ f);
          eight = length-asked s.requests kind t ∙ r.eight;
        };
        next = rw a;
        total = λ h. h;
        within = λ o w. w;
        sums = rw (no-count (is_set s.link.window) (counts c) n) (omega arith);
        sets = rw w (sym (or-false (is_set s.link.window)));
      })

  module _ (k : Quiet c) where
    stopped-on : (a : Option StreamNumber) → Good s c (stopped s clock a)
    unfolding sum in_turn sent_by
    stopped-on None = quiet s c _ _ _ _ k refl (λ h. streamless Connected (inr refl)) (λ h. h) refl
    stopped-on (Some x) = quiet s c _ _ _ _ k refl (λ h. streamless Connected (inr refl)) (λ h. h) refl

    pub stops : (own : ClientState → Bool) → Good s c (stop s clock own)
    unfolding stop sum in_turn sent_by
    stops own = by_cases (own s.progress.state) (λ h. rw h (stopped-on s.progress.active)) (λ h. rw h (same s c nothing k refl))

    module _ (given : Check) (m : StreamNumber → Message) (h : closes given.says ≡ false) (z : (x : StreamNumber) → sum (m x ∷ []) ≡ 0) where
      published-on : (a : Option StreamNumber) → Good s c (published_on s clock given m a)
      unfolding in_turn sent_by
      published-on None = refl
      published-on (Some x) = good_check s c given _ _ h λ p. good-last s c _ (same s c _ k (z x))

      pub publishes : Good s c (published s clock given m)
      unfolding published
      publishes = good_check s c (unless_stage is_publishing s) _ _ refl λ p. good-last s c _ (published-on s.progress.active)

    pub pings : Good s c (ping_plan s clock)
    unfolding ping_plan sum in_turn sent_by
    pings = same s c _ k refl

module _ (s : ClientSession) (clock : RtmpTimestamp) (n : ℕ) where
  -- the pending count after a count
  counted-on : (rs : Results) (p : ℕ) → (Within s.link → p < 2 ^ 32) →
      (sum (sent_by (in_turn rs)) + p) % 2 ^ 32 ≡ (s.link.pending + cond (is_set s.link.window) n 0) % 2 ^ 32 →
      Good s (bytes n) (go rs (counted s clock n p))
  counted-on rs p b e =
      record {
        config = refl;
        streamed = λ h. h;
        requests = λ h. h;
        next = omega arith;
        total = λ h. omega arith;
        within = λ o w. record { window_below = w.window_below; pending_below = b w };
        sums = e;
        sets = sym (or-false (is_set s.link.window));
      }

  counts-by : (o : Option ℕ) → s.link.window ≡ o → Good s (bytes n) (counted_by s clock n o)
  unfolding sum in_turn sent_by
  counts-by None e = counted-on nothing _ (λ w. w.pending_below) (rw e (omega arith))
  counts-by (Some v) e =
      by_cases (leb v (s.link.pending + n))
      (λ h. rw h (counted-on _ 0 (λ w. omega arith) (rw (e, be-digits 4 ((s.link.pending + n) % 2 ^ 32) (omega arith)) (omega arith))))
      (λ h. rw h (counted-on nothing _ (λ w. omega (arith, leb-false v (s.link.pending + n) h, w.window_below v e)) (rw e (omega arith))))

  pub counting : Good s (bytes n) (count s clock n)
  unfolding count
  counting = counts-by s.link.window refl
