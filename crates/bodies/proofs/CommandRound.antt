-- A command that was written is read as the name, the number, the object and the arguments that it was written from: one theorem over them,
-- and the five commands that a client sends.
-- Assumes nothing.
use Prim.Native.Nat.{ℕ, ◌^◌, ◌<◌}
use native.Mathlib.Omega.{arith}
use mathlib.Core.Path.{◌≡◌, refl}
use mathlib.Core.Bool.{Bool, true, false}
use mathlib.Core.List.{List}
use lib.ListN.{length}
use Rattle.octets.specs.Compare.{ascii}
use Rattle.octets.specs.Utf8.{utf8}
use Rattle.octets.proofs.Utf8Laws.{all_ascii, utf8-ascii}
use Rattle.numbers.specs.Numbers.{number_of}
use Rattle.numbers.proofs.Laws.{number_of-lt}
use Rattle.amf0.specs.Value.{Value, number, text, object, null, Props, end, prop, Values, nil, cons}
use Rattle.amf0.specs.Encode.{encode_values, Within, PropsWithin, ValuesWithin}
use Rattle.amf0.proofs.RoundTrip.{next_round, values-round}
use Rattle.messages.specs.Incoming.{Command, command, text_only, number_only, command_of, decode}
use Rattle.messages.specs.declared.publish_request_type.PublishRequestType.{PublishRequestType}
use Rattle.messages.specs.declared.publish_request_type.PublishRequestType.TheVariants.{Live, Record, Append}
use Rattle.bodies.specs.Bodies.{command_values, tc_url_prop, connect_object, connect_body, create_stream_body, delete_stream_body, play_body, publish_name, publish_body}

-- a text that can be sent
pub record Sendable (t : List ℕ) : Type 0 where
  pub short : length t < 2 ^ 16
  pub chars : utf8 t ≡ true

pub sendable-ascii : (t : List ℕ) → length t < 2 ^ 16 → all_ascii t ≡ true → Sendable t
sendable-ascii t l h = record { short = l; chars = utf8-ascii t h }

-- ---- within the limits
pub text-within : {t : List ℕ} (d : ℕ) → 0 < d → Sendable t → Within (text t) d
unfolding Within
text-within d h t = (h, t.short, t.chars)

pub number-within : (n d : ℕ) → 0 < d → Within (number (number_of n)) d
unfolding Within
number-within n d h = (h, number_of-lt n)

-- a property under a name of ASCII
pub prop-within : (name : List ℕ) (v : Value) (ps : Props) → 0 < length name → length name < 2 ^ 16 → all_ascii name ≡ true → Within v 7 → PropsWithin ps 7
    → PropsWithin (prop name v ps) 7
unfolding Within
prop-within name v ps p l a w h = (p, l, utf8-ascii name a, w, h)

pub object-within : (ps : Props) → PropsWithin ps 7 → Within (object ps) 8
unfolding Within
object-within ps h = (omega arith, h)

-- ---- every command
abbrev pub saying : List ℕ → ℕ → Value → Values → Command
saying name n v args =
    record {
      name = name;
      number = number_of n;
      object = v;
      args = args;
      after_name = encode_values (cons (number (number_of n)) (cons v args));
      from_object = encode_values (cons v args);
      from_args = encode_values args;
    }

pub command-round : (name : List ℕ) (n : ℕ) (v : Value) (args : Values) → Sendable name → Within v 8 → ValuesWithin args 8
    → decode 20 (encode_values (command_values name n v args)) ≡ command (saying name n v args)
unfolding decode command_of text_only number_only
command-round name n v args t w a =
    rw (
      next_round (text name) (cons (number (number_of n)) (cons v args)) (text-within 8 (omega arith) t),
      next_round (number (number_of n)) (cons v args) (number-within n 8 (omega arith)),
      next_round v args w,
      values-round args a,
    )

-- ---- the five
tc_url-within : (has : Bool) (url : List ℕ) → (has ≡ true → Sendable url) → PropsWithin (tc_url_prop has url) 7
unfolding Within
tc_url-within true url h = prop-within (ascii "tcUrl") (text url) end (omega arith) (omega arith) refl (text-within 7 (omega arith) (h refl)) tt
tc_url-within false url h = tt

-- the address has to be sound only where it is configured
module _ (n : ℕ) (app flash : List ℕ) (has : Bool) (url : List ℕ) (a : Sendable app) (f : Sendable flash) (u : has ≡ true → Sendable url) where
  connect-within : Within (connect_object app flash has url) 8
  connect-within =
      object-within _
      (prop-within (ascii "app") (text app) _ (omega arith) (omega arith) refl (text-within 7 (omega arith) a)
      (prop-within (ascii "flashVer") (text flash) _ (omega arith) (omega arith) refl (text-within 7 (omega arith) f)
      (prop-within (ascii "objectEncoding") (number (number_of 0)) _ (omega arith) (omega arith) refl (number-within 0 7 (omega arith)) (tc_url-within has url u))))

  pub connect_round : decode 20 (connect_body n app flash has url) ≡ command (saying (ascii "connect") n (connect_object app flash has url) nil)
  unfolding connect_body ValuesWithin
  connect_round = command-round (ascii "connect") n (connect_object app flash has url) nil (sendable-ascii _ (omega arith) refl) connect-within tt

pub create_stream_round : (n : ℕ) → decode 20 (create_stream_body n) ≡ command (saying (ascii "createStream") n null nil)
unfolding create_stream_body Within
create_stream_round n = command-round (ascii "createStream") n null nil (sendable-ascii _ (omega arith) refl) (omega arith) tt

pub delete_stream_round : (x : ℕ) → decode 20 (delete_stream_body x) ≡ command (saying (ascii "deleteStream") 0 null (cons (number (number_of x)) nil))
unfolding delete_stream_body Within
delete_stream_round x =
    command-round (ascii "deleteStream") 0 null (cons (number (number_of x)) nil) (sendable-ascii _ (omega arith) refl) (omega arith)
    (number-within x 8 (omega arith), tt)

pub play_round : (key : List ℕ) → Sendable key → decode 20 (play_body key) ≡ command (saying (ascii "play") 0 null (cons (text key) nil))
unfolding play_body Within
play_round key k =
    command-round (ascii "play") 0 null (cons (text key) nil) (sendable-ascii _ (omega arith) refl) (omega arith) (text-within 8 (omega arith) k, tt)

sendable-kind : (kind : PublishRequestType) → Sendable (publish_name kind)
sendable-kind Live = sendable-ascii _ (omega arith) refl
sendable-kind Record = sendable-ascii _ (omega arith) refl
sendable-kind Append = sendable-ascii _ (omega arith) refl

pub publish-round : (key : List ℕ) (kind : PublishRequestType) → Sendable key
    → decode 20 (publish_body key kind) ≡ command (saying (ascii "publish") 0 null (cons (text key) (cons (text (publish_name kind)) nil)))
unfolding publish_body Within
publish-round key kind k =
    command-round (ascii "publish") 0 null (cons (text key) (cons (text (publish_name kind)) nil)) (sendable-ascii _ (omega arith) refl) (omega arith)
    (text-within 8 (omega arith) k, (text-within 8 (omega arith) (sendable-kind kind), tt))
