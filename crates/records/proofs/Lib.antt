pub mod Needs
pub mod Valid
pub mod Sealed
