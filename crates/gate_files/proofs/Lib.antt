pub mod Counting
pub mod OneAnswer
pub mod ComeBack
pub mod Refused
pub mod AtNumbers
