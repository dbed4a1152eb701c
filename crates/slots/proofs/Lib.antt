pub mod Turns
pub mod KindLaws
pub mod SlotBytes
pub mod SlotLaws
pub mod AreaLaws
pub mod Order
pub mod Blocks
pub mod Edits
