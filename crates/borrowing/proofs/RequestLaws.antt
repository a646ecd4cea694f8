-- A request of a kind is the call that the kind names.
-- Assumes nothing.
use Prim.Native.Nat.{ℕ}
use mathlib.Core.Path.{◌≡◌, sym, subst, ap, ◌∙◌}
use mathlib.Core.List.{List}
use Rattle.messages.specs.declared.ids.RtmpTimestamp.{RtmpTimestamp}
use Rattle.messages.specs.declared.publish_request_type.PublishRequestType.{PublishRequestType}
use Rattle.requests.specs.declared.outstanding_transaction.OutstandingTransaction.{OutstandingTransaction}
use Rattle.requests.specs.declared.outstanding_transaction.OutstandingTransaction.TheVariants.{ConnectionRequested, CreateStream}
use Rattle.requests.specs.declared.outstanding_transaction.TransactionPurpose.{TransactionPurpose}
use Rattle.requests.specs.declared.outstanding_transaction.TransactionPurpose.TheVariants.{PlayRequest, PublishRequest}
use Rattle.session.specs.Calls.{connect, play, publish}
use Rattle.session.specs.Contract.{Does}
use Rattle.session.specs.declared.record.Called.{Called}
use Rattle.session.specs.declared.record.ClientSession.{ClientSession}
use Rattle.borrowing.specs.Borrowed.{request_call}

module _ {s : ClientSession} {clock : RtmpTimestamp} {text old exit : List ℕ} {r : Called} where
  pub connect_does : {k : OutstandingTransaction} → k ≡ ConnectionRequested → Does s clock (connect text) old r exit → Does s clock (request_call k text) old r exit
  unfolding request_call
  connect_does e d = subst (λ k. Does s clock (request_call k text) old r exit) (sym e) d

  pub play_does : {k : OutstandingTransaction} {p : TransactionPurpose} → k ≡ CreateStream p → p ≡ PlayRequest
      → Does s clock (play text) old r exit → Does s clock (request_call k text) old r exit
  unfolding request_call
  play_does e f d = subst (λ k. Does s clock (request_call k text) old r exit) (sym (e ∙ ap CreateStream f)) d

  pub publish-does : {k : OutstandingTransaction} {p : TransactionPurpose} {t : PublishRequestType} → k ≡ CreateStream p → p ≡ PublishRequest t
      → Does s clock (publish text t) old r exit → Does s clock (request_call k text) old r exit
  unfolding request_call
  publish-does e f d = subst (λ k. Does s clock (request_call k text) old r exit) (sym (e ∙ ap CreateStream f)) d
