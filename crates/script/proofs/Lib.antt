pub mod WordsLemmas
pub mod NumberLemmas
pub mod ReadingsLemmas
pub mod GrammarLemmas
pub mod NameLemmas
pub mod OrderLemmas
pub mod LineLemmas
