mod Facts
mod Served
mod Unserved
mod Catching
mod Keeping
mod Held
