pub mod ListFiles
pub mod Steps
pub mod Theorems
