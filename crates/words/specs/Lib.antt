pub mod NumberLaws
pub mod Numbers
pub mod Operations
pub mod Reasons
pub mod Text
