-- What the functions' proofs lean on; `Laws` is what other crates cite. Assumes nothing.
pub mod Fields
pub mod Starred
pub mod HoldLaws
pub mod NanLaws
pub mod RoundLaws
pub mod NarrowLaws
pub mod Laws
