-- The conditions of document 01's table of turned-away calls, where they take more than a line.
-- Assumes nothing.
use Rattle.std.specs.Prelude.{ℕ, ◌≤◌, ◌<◌, ◌≡◌, ◌≢◌, ◌⊎◌, List, length, get_or, Option, Some, None}
use Rattle.octets.specs.Compare.{ascii}
use Rattle.octets.specs.Utf8.{Octets}
use Rattle.numbers.specs.Numbers.{held}
use Rattle.amf0.specs.Value.{number, Values, cons}
use Rattle.messages.specs.Incoming.{decode, command, set_chunk_size, audio, video, Command}
use Rattle.messages.specs.Notice.{text_in}
use Rattle.requests.specs.Texts.{text_of}
use Rattle.requests.specs.Places.{empty_place, Slot, lookup}
use Rattle.requests.specs.declared.place.Request.{Request}
use Rattle.requests.specs.declared.outstanding_transaction.OutstandingTransaction.{OutstandingTransaction}
use Rattle.requests.specs.declared.outstanding_transaction.OutstandingTransaction.TheVariants.{CreateStream}
use Rattle.requests.specs.declared.outstanding_transaction.TransactionPurpose.{TransactionPurpose}
use Rattle.requests.specs.declared.place.Place.{Place}
use Rattle.requests.specs.declared.text.Text.{Text}
use Rattle.session.specs.declared.record.ClientSession.{ClientSession}
use Rattle.session.specs.declared.state.ClientState.{ClientState}
use Rattle.session.specs.declared.state.ClientState.TheVariants.{PlayRequested, Playing, PublishRequested}

-- 9: over 255 bytes or not UTF-8; the same of a text that a record holds
abbrev pub Unfit : List ℕ → Type 0
Unfit t = (255 < length t) ⊎ (¬ (Octets t))

abbrev pub UnfitText : Text → Type 0
UnfitText t = (255 < t.len) ⊎ (¬ (Octets (text_of t)))

-- a tcUrl counts where one is configured
abbrev pub UnfitUrl : Option Text → Type 0
UnfitUrl o = (t : Text) × (o ≡ Some t) × UnfitText t

-- 7: above 2,147,483,647
abbrev pub LargeChunk : ℕ → Type 0
LargeChunk n = 2147483647 < n

abbrev pub stage : ClientSession → ClientState
stage s = s.progress.state

-- the number of the request in place i, if the place is occupied, and what text stands there
abbrev pub number_of : Slot → Option ℕ
number_of None = None
number_of (Some (n, k)) = Some n.0

abbrev pub number_in : List Place → ℕ → Option ℕ
number_in ps i = number_of (get_or ps i empty_place).request

abbrev pub text_at : List Place → ℕ → Text
text_at ps i = (get_or ps i empty_place).text

-- 13: an occupied place with an open number that is 0, doubled, or not below the next number, or with a text that opening refuses
pub data BadPlace (next : ℕ) (ps : List Place) : Type 0 where
  zero : (i : ℕ) → number_in ps i ≡ Some 0 → BadPlace next ps
  doubled : (i j n : ℕ) → i < j → number_in ps i ≡ Some n → number_in ps j ≡ Some n → BadPlace next ps
  not_below : (i n : ℕ) → number_in ps i ≡ Some n → next ≤ n → BadPlace next ps
  bad_text : (i n : ℕ) → number_in ps i ≡ Some n → UnfitText (text_at ps i) → BadPlace next ps

pub data NoSession (s : ClientSession) : Type 0 where
  flash_version : UnfitText s.config.flash_version → NoSession s
  tc_url : UnfitUrl s.config.tc_url → NoSession s
  chunk_size : LargeChunk s.config.chunk_size → NoSession s
  next_zero : s.requests.next ≡ 0 → NoSession s
  next_above : 4294967296 < s.requests.next → NoSession s
  in_places : BadPlace s.requests.next s.requests.places → NoSession s

-- a message of type k with the body b is a command of that name
pub record Named (k : ℕ) (b : List ℕ) (name : List ℕ) (c : Command) : Type 0 where
  pub says : decode k b ≡ command c
  pub named : c.name ≡ name

-- a reply's held number is that of the request q, which is open, and was sent for that
pub record RepliesTo (s : ClientSession) (c : Command) (q : Request) (what : OutstandingTransaction) : Type 0 where
  pub found : lookup (held c.number) s.requests.places ≡ Some q
  pub kind : q.kind ≡ what

-- the text `code` of a notice's first argument, if that is an object with such a text
abbrev pub code : Command → Option (List ℕ)
code c = text_in (ascii "code") c.args

-- the first argument is absent or no Number
abbrev pub NoNumber : Values → Type 0
NoNumber vs = (n : ℕ) (others : Values) → vs ≢ cons (number n) others

-- 2: a Start notice, pictures or sound at another stage than theirs
pub data WrongStage (s : ClientSession) (k : ℕ) (b : List ℕ) : Type 0 where
  play_start :
      (c : Command) → Named k b (ascii "onStatus") c → code c ≡ Some (ascii "NetStream.Play.Start") →
      stage s ≢ PlayRequested → WrongStage s k b
  publish_start :
      (c : Command) → Named k b (ascii "onStatus") c → code c ≡ Some (ascii "NetStream.Publish.Start") →
      stage s ≢ PublishRequested → WrongStage s k b
  sound_in : decode k b ≡ audio → stage s ≢ PlayRequested → stage s ≢ Playing → WrongStage s k b
  picture_in : decode k b ≡ video → stage s ≢ PlayRequested → stage s ≢ Playing → WrongStage s k b

-- 4: `_error` to an open createStream
pub data NotCreated (s : ClientSession) (k : ℕ) (b : List ℕ) : Type 0 where
  error :
      (c : Command) (q : Request) (p : TransactionPurpose) →
      Named k b (ascii "_error") c → RepliesTo s c q (CreateStream p) → NotCreated s k b

-- 5: `_result` to an open createStream, first argument absent or no Number
pub data NoStreamNumber (s : ClientSession) (k : ℕ) (b : List ℕ) : Type 0 where
  result :
      (c : Command) (q : Request) (p : TransactionPurpose) →
      Named k b (ascii "_result") c → RepliesTo s c q (CreateStream p) → NoNumber c.args → NoStreamNumber s k b

-- 6: onStatus without a first argument that is an object with a text `code`
pub data BadNotice (k : ℕ) (b : List ℕ) : Type 0 where
  notice : (c : Command) → Named k b (ascii "onStatus") c → code c ≡ None → BadNotice k b

-- 7: the peer's chunk size
pub data PeerChunk (k : ℕ) (b : List ℕ) : Type 0 where
  large : (n : ℕ) → decode k b ≡ set_chunk_size n → LargeChunk n → PeerChunk k b
