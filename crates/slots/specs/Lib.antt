pub mod Slots
pub mod Chain
