pub mod Counting
pub mod Earliest
pub mod Slot
pub mod Slots
pub mod Totals
