pub mod Enlarged
pub mod Reads
pub mod Steps
pub mod AtNumbers
