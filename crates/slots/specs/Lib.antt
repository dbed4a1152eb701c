pub mod Kind
pub mod Found
pub mod Holder
pub mod Search
