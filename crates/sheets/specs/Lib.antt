pub mod Sheets
pub mod Worked
pub mod ReadBack
pub mod Theorems
