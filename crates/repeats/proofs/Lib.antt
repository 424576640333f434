pub mod Circle
pub mod Sizes
pub mod Entering
pub mod Begun
pub mod Joining
pub mod OneAnswer
pub mod AtNumbers
