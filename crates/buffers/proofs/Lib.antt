pub mod Split
pub mod Bytes
pub mod Lists
pub mod LittleEndian
pub mod Folds
pub mod Differences
pub mod Order
pub mod Theorems
