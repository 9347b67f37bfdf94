-- The lemmas.
pub mod Placing
