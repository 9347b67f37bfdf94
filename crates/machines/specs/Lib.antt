pub mod Inset
pub mod Model
pub mod Pair
pub mod Refusals
pub mod Runs
pub mod InsetLaws
pub mod PairLaws
