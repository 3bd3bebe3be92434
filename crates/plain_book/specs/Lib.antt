pub mod Plain
pub mod Latest
