pub mod Queries
pub mod Stacks
pub mod Starts
pub mod Stored
pub mod Spelling
