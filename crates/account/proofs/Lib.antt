mod Ends
mod Held
