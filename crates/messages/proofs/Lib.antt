-- The laws that the proofs cite.
pub mod WholeLaws
pub mod BandwidthLaws
pub mod EventLaws
pub mod LeafLaws
pub mod ValuesLaws
pub mod CommandLaws
pub mod DataLaws
pub mod FieldLaws
pub mod PlacesLaws
pub mod DecodeLaws
pub mod MeaningLaws
pub mod Starred
