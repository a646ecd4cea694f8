-- The verbs, and the words for what is published: document 01, "Program `card`", and the further calls of a session.
-- Assumes nothing.
use Rattle.std.specs.Prelude.{ℕ, List, [], ◌∷◌, Option}
use Rattle.std.specs.List.{find}
use Rattle.std.specs.Option.{option_map}
use Rattle.octets.specs.Compare.{ascii, same}
use Rattle.messages.specs.declared.publish_request_type.PublishRequestType.{PublishRequestType}
use Rattle.messages.specs.declared.publish_request_type.PublishRequestType.TheVariants.{Live, Record, Append}
use Rattle.script.specs.declared.verbs.Verb.{Verb}
use Rattle.script.specs.declared.verbs.Verb.TheVariants.{Bytes, Msg, Connect, Play, Publish, StopPlayback, StopPublishing, Ping, Video, Audio, Metadata, Open, Space}

-- each verb with its word
abbrev pub verbs : List (List ℕ × Verb)
verbs =
    (ascii "bytes", Bytes) ∷ (ascii "msg", Msg) ∷ (ascii "connect", Connect) ∷ (ascii "play", Play) ∷ (ascii "publish", Publish)
    ∷ (ascii "stop_playback", StopPlayback) ∷ (ascii "stop_publishing", StopPublishing) ∷ (ascii "ping", Ping) ∷ (ascii "video", Video) ∷ (ascii "audio", Audio)
    ∷ (ascii "metadata", Metadata) ∷ (ascii "open", Open) ∷ (ascii "space", Space) ∷ []

abbrev pub verb_of : List ℕ → Option Verb
verb_of s = option_map (λ row. row.1) (find (λ row. same s row.0) verbs)

-- each kind of publishing with its word
abbrev pub types : List (List ℕ × PublishRequestType)
types = (ascii "live", Live) ∷ (ascii "record", Record) ∷ (ascii "append", Append) ∷ []

abbrev pub publish_type : List ℕ → Option PublishRequestType
publish_type s = option_map (λ row. row.1) (find (λ row. same s row.0) types)
