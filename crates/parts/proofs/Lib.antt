pub mod Cuts
pub mod Parting
