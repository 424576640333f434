pub mod Wider
pub mod Filling
pub mod Records
pub mod Answers
pub mod Layouts
pub mod AtNumbers
pub mod Rules
