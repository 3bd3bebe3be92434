mod Headroom
mod Latest
mod Writes
