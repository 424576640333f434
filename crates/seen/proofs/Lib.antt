pub mod Laws
pub mod Fronts
pub mod Theorems
pub mod AtNumbers
