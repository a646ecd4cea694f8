-- The calls that borrow the session. Each counts as the call whose result it stores.
-- Assumes nothing.
use Rattle.std.specs.Prelude.{ℕ, Bool, ◌||◌, List, eqb, Result}
use Rattle.messages.specs.Numbers.{type_number, audio, video}
use Rattle.messages.specs.declared.ids.RtmpTimestamp.{RtmpTimestamp}
use Rattle.requests.specs.declared.outstanding_transaction.OutstandingTransaction.{OutstandingTransaction}
use Rattle.requests.specs.declared.outstanding_transaction.OutstandingTransaction.TheVariants.{ConnectionRequested, CreateStream}
use Rattle.requests.specs.declared.outstanding_transaction.TransactionPurpose.TheVariants.{PlayRequest, PublishRequest}
use Rattle.session.specs.Calls.{Call, connect, play, publish}
use Rattle.session.specs.Contract.{Does}
use Rattle.session.specs.declared.errors.ClientSessionError.{ClientSessionError}
use Rattle.session.specs.declared.record.ClientSession.{ClientSession}
use Rattle.session.specs.declared.result.Outcome.{Outcome}

-- the request of a kind: its text is the app name of a connect, and else the stream key
unfoldable pub request_call : OutstandingTransaction → List ℕ → Call
request_call ConnectionRequested app = connect app
request_call (CreateStream PlayRequest) key = play key
request_call (CreateStream (PublishRequest t)) key = publish key t

-- the types of sound and of a picture: messages that leave every session as it is
abbrev pub is_media : ℕ → Bool
is_media k = eqb k (type_number audio) || eqb k (type_number video)

-- The contract of a borrowing call: its answer, the session stored and the lent output at exit are those of the call by value.
abbrev pub Stores : ClientSession → RtmpTimestamp → Call → List ℕ → Result Outcome ClientSessionError → ClientSession → List ℕ → Type 0
Stores s clock c old o after exit = Does s clock c old (record { outcome = o; session = after }) exit
