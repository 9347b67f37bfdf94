pub mod Levels
pub mod Tree
pub mod Placing
pub mod Summary
pub mod Standing
pub mod Book
pub mod Claims
