pub mod Converted
pub mod Reading
pub mod Steps
pub mod First
pub mod FirstRules
pub mod Theorems
pub mod AtNumbers
