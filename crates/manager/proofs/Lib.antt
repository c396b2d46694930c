pub mod Sinking
pub mod Devices
pub mod Ways
pub mod Good
pub mod Steps
pub mod Whole
pub mod Keeps
