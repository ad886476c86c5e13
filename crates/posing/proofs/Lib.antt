pub mod PoseLaws
pub mod StartLaws
pub mod StoredLaws
pub mod SpellLaws
