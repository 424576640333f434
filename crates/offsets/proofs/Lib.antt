pub mod Saying
pub mod Keeping
pub mod Waiting
pub mod Stepping
pub mod Answers
