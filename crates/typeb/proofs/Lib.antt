pub mod Parts
pub mod Bodies
pub mod Residue
pub mod Buffers
pub mod Sealed
pub mod Distinct
pub mod Exact
