pub mod EntryLemmas
pub mod StackLemmas
pub mod ReadingLemmas
pub mod NumberLemmas
pub mod ValueLemmas
pub mod NameLemmas
