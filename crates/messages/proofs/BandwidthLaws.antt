-- Bodies of type 6, by their length and their last byte.
-- Assumes nothing.
use Prim.Native.Nat.{ℕ}
use native.Mathlib.Omega.{arith}
use mathlib.Core.Path.{◌≡◌, sym, ap}
use mathlib.Core.List.{List}
use lib.ListN.{length, drop, get_or, length-drop}
use Rattle.std.specs.Prelude.{Ok, Err}
use Rattle.octets.specs.Parse.{got, and_then}
use Rattle.octets.specs.BigEndian.{uint}
use Rattle.amf0.proofs.CutLaws.{uint-got, steps, wrapped, coded-left}
use Rattle.amf0.proofs.PlaceLaws.{byte_at}
use Rattle.messages.specs.Incoming.{Incoming, malformed, peer_bandwidth, whole, Bandwidth, bandwidth_of, limit_of}
use Rattle.messages.specs.declared.rtmp_message.PeerBandwidthLimitType.{PeerBandwidthLimitType}
use Rattle.messages.specs.Numbers.{limit_type}
use Rattle.amf0.specs.declared.read.Malformed.{Malformed}
use Rattle.messages.proofs.WholeLaws.{whole-all, whole-more}

abbrev saying : Bandwidth → Incoming
saying b = peer_bandwidth b.size b.limit

module _ (s : List ℕ) where
  pub not_five : (length s ≡ 5 → ⊥) → malformed ≡ whole saying (bandwidth_of s)
  unfolding bandwidth_of
  not_five h =
      sym (whole-more saying (bandwidth_of s) (λ b r e z.
      let i = steps (uint 4 s) _ e in
      let j = steps (uint 1 i.rest) _ i.two in
      let k = wrapped (limit_of j.what j.rest) (λ t. record { size = i.what; limit = t }) j.two in
      let f = (uint-got 4 s i.one).1 in
      let g = (uint-got 1 i.rest j.one).1 in
      let q = ap length (coded-left (limit_type j.what) j.rest k.is) in
      h (omega (arith, f.fits, g.fits, ap length f.rest, ap length g.rest, length-drop 4 s, length-drop 1 i.rest))))

  module _ (l : length s ≡ 5) {n : ℕ} (e : uint 4 s ≡ got n (drop 4 s)) where
    bandwidth-is : bandwidth_of s ≡ and_then (limit_of (get_or s 4 0) (drop 5 s)) (λ t r. got (record { size = n; limit = t }) r)
    unfolding bandwidth_of
    bandwidth-is = rw (e, byte_at s 4 (omega arith))

    pub limit_is : (t : PeerBandwidthLimitType) → Ok t ≡ limit_type (get_or s 4 0) → peer_bandwidth n t ≡ whole saying (bandwidth_of s)
    limit_is t g = rw (bandwidth-is, ← g) (sym (whole-all saying _ (drop 5 s) (omega (arith, length-drop 5 s))))

    pub no-limit : {d : Malformed} → Err d ≡ limit_type (get_or s 4 0) → malformed ≡ whole saying (bandwidth_of s)
    no-limit g = rw (bandwidth-is, ← g)
