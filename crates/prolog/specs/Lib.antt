pub mod Prolog
pub mod Proofread
pub mod Puts
