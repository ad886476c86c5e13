pub mod Sounds
pub mod Shows
pub mod Takes
pub mod Streams
pub mod Numbering
pub mod Frames
pub mod Sinks
