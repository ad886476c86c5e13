pub mod Symbols
pub mod Numbers
pub mod Tables
pub mod Noting
