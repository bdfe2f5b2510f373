pub mod Made
pub mod Seen
