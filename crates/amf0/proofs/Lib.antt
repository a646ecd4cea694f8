-- The laws that the proofs cite.
pub mod CutLaws
pub mod Fuel
pub mod PlaceLaws
pub mod TextLaws
pub mod KindLaws
pub mod ReadLaws
pub mod LookupLaws
pub mod FindLaws
pub mod EncodeLaws
pub mod RoundTrip
pub mod WriteLaws
pub mod Starred
