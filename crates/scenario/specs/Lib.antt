pub mod Images
pub mod Speaks
pub mod Wording
