pub mod Basics
pub mod Picks
pub mod Fronts
pub mod Turns
pub mod Rounds
pub mod Judged
pub mod Opened
pub mod Filled
