pub mod Layout
pub mod Reading
pub mod Ahead
pub mod Written
