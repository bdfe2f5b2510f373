pub mod Laws
pub mod Best
pub mod Front
pub mod Values
pub mod Shown
