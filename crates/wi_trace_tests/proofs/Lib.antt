pub mod BoundsLemmas
