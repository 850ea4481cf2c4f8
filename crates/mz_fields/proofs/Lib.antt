pub mod ValueLemmas
pub mod OrderLemmas
