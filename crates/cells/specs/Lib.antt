pub mod States
pub mod Growth
pub mod Stores
