mod Fits
pub mod Correspond
mod Carrying
mod Walking
pub mod Books
mod Splitting
mod Passing
mod Rooms
mod Writes
mod Mending
