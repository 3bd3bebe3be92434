pub mod Admission
pub mod Earliest
pub mod Schedules
pub mod Slot
pub mod Windows
