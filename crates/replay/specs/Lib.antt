pub mod Lines
pub mod Runs
pub mod Halts
pub mod Leased
pub mod Shown
