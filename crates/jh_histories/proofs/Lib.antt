pub mod ParsingLemmas
pub mod FirstValuesLemmas
pub mod FirstLineLemmas
