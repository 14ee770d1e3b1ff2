pub mod CountParts
pub mod BranchLaws
pub mod RunsOfBranches
pub mod FitLaws
pub mod TreeLaws
pub mod NodeLaws
pub mod FreeLaws
pub mod WidenLaws
mod Rows
