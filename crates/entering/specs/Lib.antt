pub mod Goals
pub mod Entries
pub mod Turns
pub mod Ready
pub mod States
pub mod Checks
pub mod Paths
pub mod Keys
