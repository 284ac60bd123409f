pub mod Laws
pub mod OwnCalls
