pub mod Dating
pub mod Sound
pub mod Changes
pub mod Reading
pub mod Ways
