pub mod TermLaws
pub mod RefusalLaws
pub mod LineLaws
pub mod Samples
