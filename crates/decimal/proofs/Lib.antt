pub mod Laws
pub mod OneAnswer
