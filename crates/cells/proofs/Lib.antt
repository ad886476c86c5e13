pub mod StoreLaws
pub mod StateLaws
pub mod GrowthLaws
pub mod StructureLaws
