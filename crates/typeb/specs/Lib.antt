pub mod CheckBytes
pub mod Hears
pub mod Carries
pub mod Messages
pub mod Receives
