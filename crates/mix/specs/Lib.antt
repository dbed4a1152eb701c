pub mod Range
pub mod Send
pub mod Mix
pub mod Calls
pub mod Search
pub mod Arrays
pub mod Laws
