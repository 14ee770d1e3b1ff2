pub mod MatchingLemmas
