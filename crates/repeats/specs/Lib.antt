pub mod Meetings
pub mod Landings
pub mod Steps
pub mod Theorems
pub mod AtNumbers
