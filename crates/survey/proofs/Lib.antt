pub mod After
pub mod Stepping
pub mod Telling
pub mod OneList
