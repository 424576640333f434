pub mod Legs
pub mod OneAnswer
pub mod AtNumbers
