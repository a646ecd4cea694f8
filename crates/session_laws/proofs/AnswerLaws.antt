-- Commands by their names and first arguments, and how much the answer to a message takes.
-- Assumes nothing.
use Prim.Native.Nat.{ℕ, ◌+◌}
use native.Mathlib.Omega.{arith}
use mathlib.Core.Path.{◌≡◌, sym, ap, ◌∙◌}
use mathlib.Core.List.{List, append-nil}
use lib.ListN.{length, length-append}
use Rattle.std.specs.Prelude.{Option, Some}
use Rattle.octets.specs.Compare.{ascii, same}
use Rattle.octets.proofs.BigEndianLaws.{length_digits}
use Rattle.octets.proofs.CompareLaws.{same-eq}
use Rattle.numbers.specs.Numbers.{held}
use Rattle.amf0.specs.Value.{number, boolean, text, object, null, undefined, strict, Values, nil, cons}
use Rattle.messages.specs.Incoming.{Incoming, user_control, command, Command, decode}
use Rattle.messages.specs.Places.{name_of, argument_of, first_of, command_at, placed}
use Rattle.messages.specs.declared.ids.RtmpTimestamp.{RtmpTimestamp}
use Rattle.messages.specs.declared.ids.StreamNumber.{StreamNumber}
use Rattle.messages.specs.declared.rtmp_message.Argument.{Argument}
use Rattle.messages.specs.declared.rtmp_message.Argument.TheVariants as argument
use Rattle.messages.specs.declared.rtmp_message.CommandName.{CommandName}
use Rattle.messages.specs.declared.rtmp_message.CommandName.TheVariants as name
use Rattle.messages.specs.declared.rtmp_message.UserControlEvent.TheVariants.{PingRequest}
use Rattle.bodies.specs.Bodies.{control_body, play_body, publish_body}
use Rattle.requests.specs.Texts.{text_of}
use Rattle.requests.specs.Places.{lookup}
use Rattle.requests.specs.declared.place.Request.{Request}
use Rattle.requests.specs.declared.outstanding_transaction.OutstandingTransaction.{OutstandingTransaction}
use Rattle.requests.specs.declared.outstanding_transaction.OutstandingTransaction.TheVariants.{CreateStream}
use Rattle.requests.specs.declared.outstanding_transaction.TransactionPurpose.{TransactionPurpose}
use Rattle.requests.specs.declared.outstanding_transaction.TransactionPurpose.TheVariants.{PlayRequest, PublishRequest}
use Rattle.requests.specs.declared.text.Text.{Text}
use Rattle.requests.proofs.BoolLaws.{by_cases}
use Rattle.session.specs.Message.{stream_number, accepted, granted, result_of, result_to, command_of, control_in, on_message}
use Rattle.session.specs.Outcomes.{in_turn, sent_by, bodies}
use Rattle.session.specs.Plan.{Plan}
use Rattle.session.specs.declared.record.ClientSession.{ClientSession}
use Rattle.session_laws.specs.Conditions.{Named, RepliesTo}
use Rattle.session_laws.specs.Space.{Answers, accepts, grants_play, grants_publish, responds}
use Rattle.session_laws.proofs.DecideLaws.{clash}
use Rattle.session_laws.proofs.OrderLaws.{planned}

-- how the names are spelt
abbrev pub Spelt : List ℕ → CommandName → Type 0
Spelt t name.Result = t ≡ ascii "_result"
Spelt t name.Error = t ≡ ascii "_error"
Spelt t name.OnStatus = t ≡ ascii "onStatus"
Spelt t name.Other = Unit

pub spelt : (t : List ℕ) → Spelt t (name_of t)
unfolding name_of
spelt t =
    by_cases (same t (ascii "_result")) (λ p. rw p (same-eq t (ascii "_result") p)) λ p.
    by_cases (same t (ascii "_error")) (λ q. rw (p, q) (same-eq t (ascii "_error") q)) λ q.
    by_cases (same t (ascii "onStatus")) (λ r. rw (p, q, r) (same-eq t (ascii "onStatus") r)) λ r.
    rw (p, q, r) tt

-- the first argument
pub is_number : (vs : Values) (n : ℕ) → first_of vs ≡ Some (argument.Number n) → (others : Values) × (vs ≡ cons (number n) others)
unfolding first_of argument_of
is_number nil n h = clash (cc)
is_number (cons (number m) vs) n h = let e : m ≡ n = cc in (vs, rw e)
is_number (cons (boolean b) vs) n h = clash (cc)
is_number (cons (text t) vs) n h = clash (cc)
is_number (cons (object ps) vs) n h = clash (cc)
is_number (cons null vs) n h = clash (cc)
is_number (cons undefined vs) n h = clash (cc)
is_number (cons (strict ws) vs) n h = clash (cc)

pub first-number : (vs : Values) (n : ℕ) (others : Values) → vs ≡ cons (number n) others → first_of vs ≡ Some (argument.Number n)
unfolding first_of argument_of
first-number vs n others e = rw e

-- how much a grant takes, by what it is for
abbrev pub grant_size : TransactionPurpose → Text → ℕ
grant_size PlayRequest key = 10 + length (play_body (text_of key))
grant_size (PublishRequest t) key = length (publish_body (text_of key) t)

module _ (s : ClientSession) (clock : RtmpTimestamp) (k : ℕ) (t : RtmpTimestamp) (x : StreamNumber) (b : List ℕ) where
  -- what the message comes to
  abbrev pub here : Plan
  here = on_message s clock b k t x (placed b (decode k b))

  pub comes : (i : Incoming) → decode k b ≡ i → here ≡ on_message s clock b k t x (placed b i)
  comes i e = ap (λ j. on_message s clock b k t x (placed b j)) e

  module _ {c : Command} where
    pub comes-command : {nm : CommandName} → decode k b ≡ command c → name_of c.name ≡ nm → here ≡ command_of s clock b (command_at b c) nm
    unfolding on_message placed
    comes-command e h = comes (command c) e ∙ ap (command_of s clock b (command_at b c)) h

    module _ (n : Named k b (ascii "_result") c) where
      pub comes-result : {o : Option Request} → lookup (held c.number) s.requests.places ≡ o →
          here ≡ result_to s clock b (command_at b c) (held c.number) o
      unfolding name_of same
      comes-result h = comes-command n.says (ap name_of n.named) ∙ ap (result_to s clock b (command_at b c) (held c.number)) h

      pub comes-open : {q : Request} {kd : OutstandingTransaction} → RepliesTo s c q kd →
          here ≡ result_of s clock b (command_at b c) (held c.number) kd q.text
      comes-open {q} o = comes-result o.found ∙ ap (λ kd. result_of s clock b (command_at b c) (held c.number) kd q.text) o.kind

      pub comes-grant : {q : Request} {p : TransactionPurpose} {a : Option Argument} → RepliesTo s c q (CreateStream p) → first_of c.args ≡ a →
          here ≡ granted s clock b (held c.number) p q.text (stream_number a)
      comes-grant {q} {p} o e = comes-open o ∙ ap (λ a. granted s clock b (held c.number) p q.text (stream_number a)) e

  -- how much an answer takes
  pub accept_takes : (n : ℕ) → planned (accepted s clock b n) ≡ 8
  unfolding in_turn sent_by bodies
  accept_takes n = simp (length-append, length_digits)

  pub grant-takes : (n : ℕ) (p : TransactionPurpose) (key : Text) (v : ℕ) →
      planned (granted s clock b n p key (stream_number (Some (argument.Number v)))) ≡ grant_size p key
  unfolding in_turn sent_by bodies control_body
  grant-takes n PlayRequest key v = simp (length-append, length_digits) (omega arith)
  grant-takes n (PublishRequest t) key v = simp append-nil

  pub ping_takes : (at : RtmpTimestamp) → planned (control_in s clock b (PingRequest at)) ≡ 6
  unfolding in_turn sent_by bodies control_body
  ping_takes at = simp (length-append, length_digits)

  pub takes-is : (n : ℕ) → Answers s k b n → n ≡ planned here
  unfolding on_message placed
  takes-is n (accepts c q m o) = sym (ap planned (comes-open m o) ∙ accept_takes (held c.number))
  takes-is n (grants_play c q v others m o e) =
      sym (ap planned (comes-grant m o (first-number _ v others e)) ∙ grant-takes (held c.number) PlayRequest q.text v)
  takes-is n (grants_publish c q p v others m o e) =
      sym (ap planned (comes-grant m o (first-number _ v others e)) ∙ grant-takes (held c.number) (PublishRequest p) q.text v)
  takes-is n (responds at e) = sym (ap planned (comes (user_control (PingRequest at)) e) ∙ ping_takes at)
