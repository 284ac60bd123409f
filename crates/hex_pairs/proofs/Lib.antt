pub mod ReadBack
pub mod Texts
