pub mod Rates
pub mod Times
pub mod Units
pub mod Theorems
