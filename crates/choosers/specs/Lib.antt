pub mod Rows
pub mod Picks
pub mod Chained
pub mod Kept
