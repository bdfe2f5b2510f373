pub mod Net
pub mod Refusals
pub mod Drafts
pub mod Rings
pub mod Loads
pub mod Held
pub mod Shown
