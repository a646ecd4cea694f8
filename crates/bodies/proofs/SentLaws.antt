-- The number of a request is read from its body, and the stream from a deleteStream's; the other bodies are neither.
-- Assumes nothing.
use Prim.Native.Nat.{ℕ, ◌^◌, ◌<◌}
use mathlib.Core.Path.{◌≡◌, refl, ap}
use mathlib.Core.Bool.{Bool, true}
use mathlib.Core.Logic.{⊎_elim}
use mathlib.Core.List.{List}
use Rattle.std.specs.Prelude.{Some, None}
use Rattle.octets.specs.Compare.{same}
use Rattle.numbers.proofs.Laws.{held-number_of}
use Rattle.messages.specs.Incoming.{decode}
use Rattle.messages.proofs.DecodeLaws.{decode-cases}
use Rattle.messages.specs.declared.publish_request_type.PublishRequestType.{PublishRequestType}
use Rattle.bodies.specs.Bodies.{connect_body, create_stream_body, delete_stream_body, play_body, publish_body}
use Rattle.bodies.specs.Sent.{command_in, requested, first_number, deletes, request_number, deleted_stream}
use Rattle.bodies.proofs.CommandRound.{Sendable, connect_round, create_stream_round, delete_stream_round, play_round, publish-round}

-- ---- requests
module _ (n : ℕ) (app flash : List ℕ) (has : Bool) (url : List ℕ) (a : Sendable app) (f : Sendable flash) (u : has ≡ true → Sendable url) where
  pub connect-number : n < 2 ^ 32 → request_number 20 (connect_body n app flash has url) ≡ Some n
  unfolding command_in requested same
  connect-number h = rw (connect_round n app flash has url a f u) (ap Some (held-number_of n h))

  pub connect-deletes : deleted_stream 20 (connect_body n app flash has url) ≡ None
  unfolding command_in deletes same
  connect-deletes = rw (connect_round n app flash has url a f u)

pub create_stream-number : (n : ℕ) → n < 2 ^ 32 → request_number 20 (create_stream_body n) ≡ Some n
unfolding command_in requested same
create_stream-number n h = rw (create_stream_round n) (ap Some (held-number_of n h))

pub create_stream-deletes : (n : ℕ) → deleted_stream 20 (create_stream_body n) ≡ None
unfolding command_in deletes same
create_stream-deletes n = rw (create_stream_round n)

-- ---- the other commands
pub delete_stream-deletes : (x : ℕ) → x < 2 ^ 32 → deleted_stream 20 (delete_stream_body x) ≡ Some x
unfolding command_in deletes first_number same
delete_stream-deletes x h = rw (delete_stream_round x) (ap Some (held-number_of x h))

pub delete_stream-number : (x : ℕ) → request_number 20 (delete_stream_body x) ≡ None
unfolding command_in requested same
delete_stream-number x = rw (delete_stream_round x)

module _ (key : List ℕ) (k : Sendable key) where
  pub play-number : request_number 20 (play_body key) ≡ None
  unfolding command_in requested same
  play-number = rw (play_round key k)

  pub play-deletes : deleted_stream 20 (play_body key) ≡ None
  unfolding command_in deletes same
  play-deletes = rw (play_round key k)

  pub publish-number : (kind : PublishRequestType) → request_number 20 (publish_body key kind) ≡ None
  unfolding command_in requested same
  publish-number kind = rw (publish-round key kind k)

  pub publish-deletes : (kind : PublishRequestType) → deleted_stream 20 (publish_body key kind) ≡ None
  unfolding command_in deletes same
  publish-deletes kind = rw (publish-round key kind k)

-- ---- messages of other types
module _ (t : ℕ) (s : List ℕ) (a : t ≡ 17 → ⊥) (b : t ≡ 20 → ⊥) where
  pub no-command : command_in (decode t s) ≡ None
  unfolding command_in
  no-command =
      decode-cases (λ i. command_in i ≡ None) t s
      (record {
        malformeds = refl;
        chunk_sizes = λ n. refl;
        aborts = λ n. refl;
        acknowledgements = λ n. refl;
        windows = λ n. refl;
        bandwidths = λ n l. refl;
        events = λ e. refl;
        audios = refl;
        videos = refl;
        unknowns = refl;
        datas = λ k d q. refl;
        commands = λ k at c q. absurd (⊎_elim a b k);
      })

  pub no_number : request_number t s ≡ None
  unfolding requested
  no_number = rw no-command

  pub no_delete : deleted_stream t s ≡ None
  unfolding deletes
  no_delete = rw no-command
