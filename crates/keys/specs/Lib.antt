pub mod KeyFile
pub mod Reader
pub mod Calls
pub mod Laws
