pub mod Scaling
pub mod OneAnswer
