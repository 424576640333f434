pub mod Ranks
pub mod ChainLaws
pub mod PairLaws
pub mod LegLaws
