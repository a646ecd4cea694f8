-- From the places of a body back to what it says: the parts of a command stand at their places, and its code and its description are the
-- texts of its first argument.
-- Assumes nothing.
use Prim.Native.Nat.{ℕ, ◌-◌}
use native.Mathlib.Omega.{arith}
use mathlib.Core.Path.{◌≡◌, refl, sym, ap, ◌∙◌}
use mathlib.Core.Bool.{Bool, true, false, cond}
use mathlib.Core.List.{List, []}
use lib.ListN.{length, drop}
use Rattle.std.specs.Prelude.{Option, Some, None, Ok}
use Rattle.std.specs.Option.{unwrap_or}
use Rattle.octets.specs.Parse.{got, and_then, place_of}
use Rattle.octets.specs.Compare.{ascii, same}
use Rattle.octets.proofs.CompareLaws.{same-eq, same-ne}
use Rattle.amf0.specs.Value.{Value, number, boolean, text, object, null, undefined, strict, Props, Values, nil, cons}
use Rattle.amf0.specs.Decode.{top_value, all_values}
use Rattle.amf0.specs.Lookup.{properties_at}
use Rattle.amf0.specs.Places.{text_of_property, stretch}
use Rattle.octets.specs.declared.span.Span.{Span}
use Rattle.amf0.proofs.CutLaws.{clash, past-past, past-place, steps, wrapped, cuts-value}
use Rattle.amf0.proofs.FindLaws.{properties-over}
use Rattle.messages.specs.Incoming.{command, values, Command, Data, text_only, number_only, command_of, data_of, rest_of, decode}
use Rattle.messages.specs.Notice.{code_is, code_of, code_at, text_in}
use Rattle.messages.specs.Places.{argument_of, first_of, if_object, is_on_meta_data, data_at, placed}
use Rattle.messages.specs.declared.rtmp_message.Argument.{Argument}
use Rattle.messages.specs.declared.rtmp_message.Argument.TheVariants as argument
use Rattle.messages.specs.declared.rtmp_message.DataMessage.TheVariants as said
use Rattle.messages.specs.declared.rtmp_message.RtmpMessage.TheVariants as message
use Rattle.messages.specs.declared.on_status.OnStatus.{OnStatus}
use Rattle.messages.specs.declared.on_status.OnStatus.TheVariants as status
use Rattle.messages.proofs.LeafLaws.{Lies, text-lies, is-text, is_number}
use Rattle.messages.proofs.ValuesLaws.{Ended, at-end}
use Rattle.messages.proofs.ValuesLaws as values-laws
use Rattle.messages.proofs.FieldLaws.{TextStands, no_text, text-at, text-stands}
use Rattle.messages.proofs.DecodeLaws.{decode-cases}
use Rattle.octets.specs.Span.{span}

-- the parts of a command, which are last parts of s, and what is read from each
pub record CommandStands (s : List ℕ) (c : Command) : Type 0 where
  pub name_lies : Lies s (place_of s c.after_name - length c.name) c.name
  pub number_at : c.after_name ≡ drop (place_of s c.after_name) s
  pub object_at : c.from_object ≡ drop (place_of s c.from_object) s
  pub args_at : c.from_args ≡ drop (place_of s c.from_args) s
  pub number_read : top_value c.after_name ≡ got (number c.number) c.from_object
  pub object_read : top_value c.from_object ≡ got c.object c.from_args
  pub args_read : all_values c.from_args ≡ got c.args []

module _ (s : List ℕ) (at : ℕ) (c : Command) where
  command-stands-at : command_of (drop at s) ≡ got c [] → CommandStands s c
  unfolding command_of
  command-stands-at e =
      let i = steps (and_then (top_value (drop at s)) text_only) _ e in
      let j = steps (and_then (top_value i.rest) number_only) _ i.two in
      let k = steps (top_value j.rest) _ j.two in
      let l = wrapped (all_values k.rest) (λ vs. record {
        name = i.what;
        number = j.what;
        object = k.what;
        args = vs;
        after_name = i.rest;
        from_object = j.rest;
        from_args = k.rest;
      }) k.two in
      let a = steps (top_value (drop at s)) text_only i.one in
      let b = is-text a.what a.rest a.two in
      let d = steps (top_value i.rest) number_only j.one in
      let f = is_number d.what d.rest d.two in
      let name-read : top_value (drop at s) ≡ got (text i.what) i.rest = a.one ∙ cc in
      let number_read : top_value i.rest ≡ got (number j.what) j.rest = d.one ∙ cc in
      let p = (cuts-value 8 (drop at s)).cut name-read in
      let q = past-past p ((cuts-value 8 i.rest).cut number_read) in
      let r = past-past q ((cuts-value 8 j.rest).cut k.one) in
      rw (← l.means)
      (record {
        name_lies = text-lies 7 s at name-read;
        number_at = past-place s at p;
        object_at = past-place s at q;
        args_at = past-place s at r;
        number_read = number_read;
        object_read = k.one;
        args_read = l.is;
      })

pub command-stands : (t : ℕ) (s : List ℕ) (c : Command) → decode t s ≡ command c → CommandStands s c
command-stands t s =
    decode-cases (λ i. (c : Command) → i ≡ command c → CommandStands s c) t s
    (record {
      malformeds = λ c e. clash (cc);
      chunk_sizes = λ n c e. clash (cc);
      aborts = λ n c e. clash (cc);
      acknowledgements = λ n c e. clash (cc);
      windows = λ n c e. clash (cc);
      bandwidths = λ n l c e. clash (cc);
      events = λ v c e. clash (cc);
      audios = λ c e. clash (cc);
      videos = λ c e. clash (cc);
      unknowns = λ c e. clash (cc);
      datas = λ k d q c e. clash (cc);
      commands = λ k at d q c e. command-stands-at s at c (q ∙ ap (λ (x : Command). got x []) (let z : d ≡ c = cc in z));
    })

-- the texts of the first argument, with their places
module _ (s : List ℕ) where
  text-of-args : (name x : List ℕ) (at : ℕ) → x ≡ drop at s → (vs : Values) → Ended top_value x vs
      → TextStands s (text_in name vs) (text_of_property s name (properties_at x))
  unfolding text_in text_of_property
  text-of-args name x at e nil (values-laws.none l) = rw (properties-over x 0 (omega arith)) no_text
  text-of-args name x at e (cons v vs) (values-laws.some k g h) = rw e (text-stands name s at (rw e at g))

  pub text-in : (name : List ℕ) (c : Command) → CommandStands s c → TextStands s (text_in name c.args) (text_of_property s name (properties_at c.from_args))
  text-in name c h =
      text-of-args name c.from_args (place_of s c.from_args) h.args_at c.args
      (at-end top_value (length c.from_args) c.from_args h.args_read).ended

  -- what a notice's code says: none where there is no such text, a Start where it is that text and only there, else the text's place
  pub data CodeSays : Option (List ℕ) → Option OnStatus → Type 0 where
    no_code : CodeSays None None
    play-start : CodeSays (Some (ascii "NetStream.Play.Start")) (Some status.PlayStart)
    publish-start : CodeSays (Some (ascii "NetStream.Publish.Start")) (Some status.PublishStart)
    other-code : {start : ℕ} {t : List ℕ} → Lies s start t → (t ≡ ascii "NetStream.Play.Start" → ⊥) → (t ≡ ascii "NetStream.Publish.Start" → ⊥)
        → CodeSays (Some t) (Some (status.Other (span start (length t))))

  code-of-text : (o : Option (List ℕ)) (k : Option Span) → TextStands s o k → CodeSays o (code_of s k)
  unfolding code_of code_is
  code-of-text (Some t) None x3 = elim x3 [ ]
  code-of-text None (Some p) x'' = elim x'' [ ]
  code-of-text None None no_text = no_code
  code-of-text (Some t) (Some p) (text-at l) =
      rw l.is (go (same t (ascii "NetStream.Play.Start")) refl (same t (ascii "NetStream.Publish.Start")) refl)
    where
      go : (a : Bool) → same t (ascii "NetStream.Play.Start") ≡ a → (b : Bool) → same t (ascii "NetStream.Publish.Start") ≡ b
          → CodeSays (Some t) (Some (cond a status.PlayStart (cond b status.PublishStart (status.Other p))))
      go true e b f = rw (same-eq t _ e) play-start
      go false e true f = rw (same-eq t _ f) publish-start
      go false e false f = other-code l (same-ne t _ e) (same-ne t _ f)

  pub code-says : (c : Command) → CommandStands s c → CodeSays (text_in (ascii "code") c.args) (code_at s c.from_args)
  code-says c h = code-of-text _ _ (text-in (ascii "code") c h)

  -- the stretch of the body that a description is
  text-stretch : (o : Option (List ℕ)) (k : Option Span) → TextStands s o k → stretch s k ≡ unwrap_or o []
  unfolding stretch
  text-stretch (Some t) None x3 = elim x3 [ ]
  text-stretch None (Some p) x'' = elim x'' [ ]
  text-stretch None None no_text = refl
  text-stretch (Some t) (Some p) (text-at l) = l.is

  pub description-is : (c : Command) → CommandStands s c
      → stretch s (text_of_property s (ascii "description") (properties_at c.from_args)) ≡ unwrap_or (text_in (ascii "description") c.args) []
  description-is c h = text-stretch _ _ (text-in (ascii "description") c h)

-- Where a data message is told to be metadata, an object is read from the place that is told.
pub record MetadataStands (s : List ℕ) (p : ℕ) : Type 0 where
  pub props : Props
  pub rest : List ℕ
  pub read : top_value (drop p s) ≡ got (object props) rest

is-object : (v : Value) → argument_of v ≡ argument.Object → (ps : Props) × (v ≡ object ps)
unfolding argument_of
is-object (number n) e = clash (cc)
is-object (boolean b) e = clash (cc)
is-object (text t) e = clash (cc)
is-object (object ps) e = (ps, refl)
is-object null e = clash (cc)
is-object undefined e = clash (cc)
is-object (strict vs) e = clash (cc)

object-first : (x : List ℕ) (vs : Values) → Ended top_value x vs → first_of vs ≡ Some argument.Object
    → (ps : Props) × ((r : List ℕ) × (top_value x ≡ got (object ps) r))
unfolding first_of
object-first x nil (values-laws.none l) e = clash (cc)
object-first x (cons v vs) (values-laws.some {r = r} k g h) e = let i = is-object v (let z : argument_of v ≡ argument.Object = cc in z) in (i.0, (r, g ∙ ap (λ (w : Value). got w r) i.1))

if-object : (q p : ℕ) (a : Option Argument) → if_object q a ≡ said.OnMetaData p → (a ≡ Some argument.Object) × (q ≡ p)
if-object q p (Some argument.Object) e = (refl, cc)
if-object q p (Some (argument.Number n)) e = clash (cc)
if-object q p (Some argument.Other) e = clash (cc)
if-object q p None e = clash (cc)

module _ (s : List ℕ) (p : ℕ) where
  second-stands : (vs : Values) → Ended top_value s vs → data_at (place_of s (rest_of (top_value s))) vs ≡ said.OnMetaData p → MetadataStands s p
  unfolding data_at
  second-stands nil (values-laws.none l) e = clash (cc)
  second-stands (cons v vs) (values-laws.some {r = r} k g h) e = go (is_on_meta_data v) (rw g at e)
    where
      go : (b : Bool) → cond b (if_object (place_of s r) (first_of vs)) said.Other ≡ said.OnMetaData p → MetadataStands s p
      go true e =
          let i = if-object (place_of s r) p (first_of vs) e in
          let o = object-first r vs (at-end top_value k r h).ended i.0 in
          let q : drop p s ≡ r = ap (λ (k : ℕ). drop k s) (sym i.1) ∙ sym (past-place s 0 ((cuts-value 8 s).cut g)) in
          record { props = o.0; rest = o.1.0; read = ap top_value q ∙ o.1.1 }
      go false e = clash (cc)

  data-stands : (d : Data) → data_of s ≡ got d [] → placed s (values d) ≡ Ok (message.Amf0Data (said.OnMetaData p)) → MetadataStands s p
  unfolding data_of placed
  data-stands d q e =
      let i = wrapped (all_values s) (λ vs. record { values = vs; after_first = rest_of (top_value s) }) q in
      second-stands i.what (at-end top_value (length s) s i.is).ended (let z = rw (← i.means) at e in cc)

  pub metadata-stands : (t : ℕ) → placed s (decode t s) ≡ Ok (message.Amf0Data (said.OnMetaData p)) → MetadataStands s p
  unfolding placed
  metadata-stands t =
      decode-cases (λ i. placed s i ≡ Ok (message.Amf0Data (said.OnMetaData p)) → MetadataStands s p) t s
      (record {
        malformeds = λ e. clash (cc);
        chunk_sizes = λ n e. clash (cc);
        aborts = λ n e. clash (cc);
        acknowledgements = λ n e. clash (cc);
        windows = λ n e. clash (cc);
        bandwidths = λ n l e. clash (cc);
        events = λ v e. clash (cc);
        audios = λ e. clash (cc);
        videos = λ e. clash (cc);
        unknowns = λ e. clash (cc);
        datas = λ k. data-stands;
        commands = λ k at c q e. clash (cc);
      })
