pub mod Scan
pub mod Parts
pub mod Written
pub mod Hex
pub mod Decimal
pub mod Laws
