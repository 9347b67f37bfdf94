-- What the contracts cite.
pub mod Answers
pub mod Order
pub mod Refusals
