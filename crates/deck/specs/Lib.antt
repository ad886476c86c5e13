pub mod Decks
pub mod Held
