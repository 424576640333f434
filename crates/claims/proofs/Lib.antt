pub mod Linking
pub mod OneAnswer
