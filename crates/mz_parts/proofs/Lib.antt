pub mod ReadLemmas
pub mod DeclarationLemmas
pub mod PropositionLemmas
pub mod JoinLemmas
pub mod DescriptionLemmas
pub mod NameLemmas
pub mod TermLemmas
