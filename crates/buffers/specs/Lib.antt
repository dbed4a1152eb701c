pub mod Bytes
pub mod Compare
pub mod Laws
