-- From what the decoder answered to the bytes that a body's digits stand for.
-- Assumes nothing.
use Prim.Native.Nat.{ℕ}
use mathlib.Core.Path.{◌≡◌, ap, ◌∙◌}
use mathlib.Core.List.{List}
use lib.Dec.{ltb}
use lib.ListN.{length, drop}
use lib.Seq.{take-append_seam}
use Rattle.octets.specs.Compare.{part}
use Rattle.octets.specs.Output.{left}
use Rattle.std.specs.Prelude.{Result, Ok, Err}
use Rattle.requests.proofs.BoolLaws.{by_cases}
use Rattle.script.specs.Hex.{is_hex, pairs, unhex_of, unhex_into, why_of}
use Rattle.script.specs.declared.hex.UnhexError.{UnhexError}
use Rattle.script.specs.declared.reasons.Why.{Why}
use Rattle.script_run.specs.Asked.{body_of}

-- a body's digits t, decoded into old
seen : Result ℕ UnhexError → List ℕ → Result (List ℕ) Why
seen (Ok n) exit = Ok (part exit 0 n)
seen (Err e) exit = Err (why_of e)

leaves : (t old : List ℕ) → body_of (length old) t ≡ seen (unhex_of t old) (unhex_into t old)
unfolding body_of seen unhex_of unhex_into left
leaves t old =
    by_cases (is_hex t)
    (λ h.
    by_cases (ltb (length old) (length (pairs t)))
    (λ y. rw (h, y))
    (λ n. rw (h, n, take-append_seam (pairs t) (drop (length (pairs t)) old))))
    (λ h. rw h)

pub decoded : (t old : List ℕ) {n : ℕ} → unhex_of t old ≡ Ok n → body_of (length old) t ≡ Ok (part (unhex_into t old) 0 n)
unfolding seen
decoded t old e = leaves t old ∙ ap (λ r. seen r (unhex_into t old)) e

pub not_decoded : (t old : List ℕ) {e : UnhexError} → unhex_of t old ≡ Err e → body_of (length old) t ≡ Err (why_of e)
unfolding seen
not_decoded t old e = leaves t old ∙ ap (λ r. seen r (unhex_into t old)) e
