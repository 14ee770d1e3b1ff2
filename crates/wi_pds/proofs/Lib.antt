pub mod Bound
pub mod Join
pub mod PairOrder
