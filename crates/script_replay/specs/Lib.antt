pub mod Script
pub mod Replay
pub mod Stream
pub mod Laws
