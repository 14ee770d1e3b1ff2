-- Lemmas that ghost members cite, which may name nothing of `proofs`. They promise nothing by themselves.
pub mod Sums
pub mod Order
pub mod Then
pub mod LexLaws
pub mod PairLaws
pub mod Same
