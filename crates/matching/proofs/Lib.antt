pub mod TrailLaws
pub mod RowLaws
pub mod JoinLaws
