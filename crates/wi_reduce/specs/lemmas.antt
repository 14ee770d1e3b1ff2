-- Lemmas that ghost members cite, which may name nothing of `proofs`. They promise nothing by themselves.
pub mod Numbers
