pub mod Tallying
pub mod Charges
pub mod Told
pub mod Rules
pub mod Runs
pub mod Laws
pub mod Meaning
pub mod Script
