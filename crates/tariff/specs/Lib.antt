pub mod Prices
pub mod Weights
pub mod Held
pub mod Shown
