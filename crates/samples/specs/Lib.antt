pub mod Late
pub mod Numbers
pub mod Told
