pub mod Graphs
pub mod Runs
pub mod Held
