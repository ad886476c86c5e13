pub mod RowLaws
pub mod ChainLaws
pub mod NoteLaws
pub mod PickLaws
