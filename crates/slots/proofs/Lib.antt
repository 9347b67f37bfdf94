pub mod Lists
pub mod Measures
pub mod Chains
pub mod Turns
pub mod Lifts
