pub mod Wrote
pub mod NumberLaws
