pub mod Records
pub mod Loops
pub mod Totals
pub mod Starting
