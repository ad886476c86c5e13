pub mod Trails
pub mod Unifies
