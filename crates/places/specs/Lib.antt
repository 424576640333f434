pub mod Order
pub mod Chains
pub mod Told
pub mod Theorems
