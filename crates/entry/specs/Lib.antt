pub mod Operands
pub mod Loops
pub mod Runs
