pub mod Meaning
pub mod Rows
pub mod Pair
pub mod Limit
pub mod FaultWords
