pub mod Commands
pub mod Judged
pub mod Laws
