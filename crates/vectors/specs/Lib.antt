pub mod Judges
pub mod Worked
