pub mod Made
pub mod Makes
pub mod Answered
pub mod Judges
pub mod Ranges
pub mod MakesOnly
pub mod Only
