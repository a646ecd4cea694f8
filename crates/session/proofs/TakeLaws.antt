-- Requests: what taking a number and a place answered, as facts of the open requests, and what the plan of a request comes to by them.
-- Assumes nothing.
use Rattle.std.specs.Prelude.{Result, Ok, Err, IsErrAnd}
use Rattle.std.proofs.Common.{◌≡◌, ℕ, ◌^◌, ◌<◌, true, false, not, List, length, ap, ◌∙◌, arith, leb-true}
use Rattle.messages.specs.declared.ids.RtmpTimestamp.{RtmpTimestamp}
use Rattle.messages.specs.declared.ids.TransactionNumber.{TransactionNumber}
use Rattle.requests.proofs.BoolLaws.{by_cases, and_left}
use Rattle.requests.specs.Texts.{fits}
use Rattle.requests.specs.Table.{spent, eight_open, asked, Taken, take_of}
use Rattle.requests.specs.declared.outstanding_transaction.OutstandingTransaction.{OutstandingTransaction}
use Rattle.requests.specs.declared.table.Requests.{Requests}
use Rattle.requests.specs.declared.table.TakeError.{TakeError}
use Rattle.requests.specs.declared.table.TakeError.TheVariants as take
use Rattle.session.specs.Record.{with_requests}
use Rattle.session.specs.Calls.{plain, sends, one}
use Rattle.session.specs.Plan.{Check, go, in_order, request}
use Rattle.session.specs.Comes.{Comes, called, refused_with, take_refusal}
use Rattle.session.specs.declared.errors.ClientSessionError.{ClientSessionError}
use Rattle.session.specs.declared.errors.ClientSessionError.TheVariants as error
use Rattle.session.specs.declared.record.Called.{Called}
use Rattle.session.specs.declared.record.ClientSession.{ClientSession}
use Rattle.session.specs.declared.result.Outcome.{Outcome}
use Rattle.session.proofs.StepLaws.{err_is, away, as-after}

-- a text that fits has a length of 16 bits
pub fits_16 : (t : List ℕ) → fits t ≡ true → length t < 2 ^ 16
unfolding fits
fits_16 t e = let h = leb-true (length t) 255 (and_left _ _ e) in omega arith

module _ (q : Requests) (k : OutstandingTransaction) (t : List ℕ) where
  pub when-spent : (take_of q k t).answer ≡ Err take.Spent → spent q ≡ true
  unfolding take_of
  when-spent a =
      by_cases (spent q) (λ y. y)
      (λ n. by_cases (eight_open q) (λ y. let b = rw (n, y) at a in cc) (λ m. let b = rw (n, m) at a in cc))

  pub when-eight : (take_of q k t).answer ≡ Err take.EightOpen → (spent q ≡ false) × (eight_open q ≡ true)
  unfolding take_of
  when-eight a =
      by_cases (spent q) (λ y. let b = rw y at a in (cc, cc))
      (λ n. by_cases (eight_open q) (λ y. (n, y)) (λ m. let b = rw (n, m) at a in (cc, cc)))

  -- a number was given
  pub record Took (n : TransactionNumber) : Type 0 where
    pub left : spent q ≡ false
    pub room : eight_open q ≡ false
    pub number : n.0 ≡ q.next
    pub table : (take_of q k t).requests ≡ asked q k t

  pub when-given : {n : TransactionNumber} → (take_of q k t).answer ≡ Ok n → Took n
  unfolding take_of
  when-given a =
      by_cases (spent q) (λ y. let b = rw y at a in record { left = cc; room = cc; number = cc; table = cc })
      (λ l.
      by_cases (eight_open q) (λ y. let b = rw (l, y) at a in record { left = cc; room = cc; number = cc; table = cc })
      (λ m. let b = rw (l, m) at a in record { left = l; room = m; number = cc; table = rw (l, m) }))

-- ---- a request, by the answers of its code: its own check, its text, and what was taken
module _ {s : ClientSession} (clock : RtmpTimestamp) (own : Check) (kind : OutstandingTransaction) (t : List ℕ) {old : List ℕ} {r : Called} where
  pub asks-own : (body : List ℕ) → own.when ≡ true → r ≡ refused_with s own.says → Comes s (request s clock own kind t body) old r old
  unfolding request in_order
  asks-own body h q = rw h (away q)

  pub asks-long : (body : List ℕ)
      → own.when ≡ false → not (fits t) ≡ true → r ≡ refused_with s error.Length → Comes s (request s clock own kind t body) old r old
  unfolding request in_order
  asks-long body h l q = rw (h, l) (away q)

  module _ {taken : Taken} (h : own.when ≡ false) (l : not (fits t) ≡ false) (e : taken ≡ take_of s.requests kind t) where
    asks_refused : (body : List ℕ) (x : TakeError)
        → taken.answer ≡ Err x → r ≡ refused_with s (take_refusal x) → Comes s (request s clock own kind t body) old r old
    unfolding request in_order
    asks_refused body take.Spent a q = rw (h, l, when-spent s.requests kind t (rw e at a)) (away q)
    asks_refused body take.EightOpen a q = let f = when-eight s.requests kind t (rw e at a) in rw (h, l, f.0, f.1) (away q)

    -- the body is that of the number which is due next
    pub asks-given : (body : ℕ → List ℕ) {n : TransactionNumber} {exit : List ℕ}
        → taken.answer ≡ Ok n
        → Comes s (go (one (sends (plain 20 clock (body n.0)))) (with_requests s taken.requests)) old r exit
        → Comes s (request s clock own kind t (body s.requests.next)) old r exit
    unfolding request in_order
    asks-given body a d =
        let f = when-given s.requests kind t (rw e at a) in
        let u : taken.requests ≡ asked s.requests kind t = ap (λ x. x.requests) e ∙ f.table in
        rw (h, l, f.left, f.room) (as-after (ap (with_requests s) u) (rw f.number at d))

-- the refusal that a `?` hands on
pub asks-none : {s : ClientSession} (clock : RtmpTimestamp) (own : Check) (kind : OutstandingTransaction) (t : List ℕ) {old : List ℕ}
    {taken : Taken} → own.when ≡ false → not (fits t) ≡ false → taken ≡ take_of s.requests kind t → (body : List ℕ) {x : TakeError} {o : Result Outcome ClientSessionError}
    → taken.answer ≡ Err x → IsErrAnd o (λ d. d ≡ take_refusal x) → Comes s (request s clock own kind t body) old (called o s) old
asks-none {s} clock own kind t h l e body a g = asks_refused clock own kind t h l e body _ a (ap (λ y. called y s) (err_is g))
