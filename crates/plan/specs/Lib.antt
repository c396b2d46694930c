pub mod Text
pub mod Sheets
pub mod Lines
pub mod Faults
