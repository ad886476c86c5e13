pub mod NumberLaws
pub mod SymbolLaws
pub mod NameLaws
pub mod NoteLaws
