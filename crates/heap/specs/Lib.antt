pub mod Limits
pub mod Heaps
pub mod Solutions
pub mod Marks
