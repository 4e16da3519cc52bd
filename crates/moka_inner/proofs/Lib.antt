pub mod ValuesLemmas
pub mod InnerLemmas
