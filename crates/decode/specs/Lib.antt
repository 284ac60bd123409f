pub mod Lines
pub mod Words
pub mod Faults
pub mod Report
pub mod Options
pub mod Worked
