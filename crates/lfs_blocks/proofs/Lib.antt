pub mod EntryLemmas
pub mod MarkLemmas
pub mod SetLemmas
pub mod UsedLemmas
