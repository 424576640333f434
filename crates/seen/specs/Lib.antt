pub mod Seen
pub mod Editions
pub mod Theorems
