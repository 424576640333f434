pub mod Cursors
pub mod Slices
pub mod Moves
pub mod Accepted
pub mod Theorems
pub mod Steps
pub mod RefusalsAtNumbers
