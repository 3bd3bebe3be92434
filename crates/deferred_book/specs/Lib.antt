pub mod Noting
pub mod Deferred
