pub mod Kinds
pub mod Says
pub mod Reacts
pub mod Unwinding
