pub mod Small
pub mod Interval
pub mod Carry
pub mod Due
pub mod Spans
pub mod Split
pub mod Mend
pub mod Slot
