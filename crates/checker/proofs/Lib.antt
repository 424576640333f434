pub mod LookLaws
pub mod Moving
pub mod OneAnswer
pub mod Refused
pub mod RefusalsAtNumbers
pub mod Whole
