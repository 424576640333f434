pub mod Small
pub mod OneAnswer
