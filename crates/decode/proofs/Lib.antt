pub mod Stepping
pub mod Quotes
pub mod Numbering
pub mod Worked
