pub mod CountFrames
pub mod Pumps
pub mod Mild
pub mod Places
pub mod Keeping
pub mod Unchecked
pub mod Lawful
pub mod Own
