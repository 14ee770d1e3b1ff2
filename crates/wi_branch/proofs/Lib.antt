pub mod WalkLaws
pub mod LeafLaws
pub mod TreeMaking
pub mod ExactLaws
pub mod FindingLaws
pub mod ToleranceLaws
