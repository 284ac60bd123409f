pub mod Digits
pub mod ReadBack
pub mod OnlyRead
