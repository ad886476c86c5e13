pub mod GetLaws
pub mod StructureLaws
pub mod WordLaws
pub mod EndLaws
