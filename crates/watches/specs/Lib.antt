pub mod Cell
pub mod Spans
pub mod Sums
pub mod Waiting
pub mod Watch
pub mod FirstLaws
pub mod WaitingLaws
pub mod CellLaws
