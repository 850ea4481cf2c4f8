-- What a checker of articles owes by its trait, for those that check by `check_article`.
pub use Rattle.mz_accepted_laws.proofs.AcceptedProofs.{accepted_law, name_law}
pub use Rattle.mz_article_laws.proofs.OneOutcome.{one_outcome}
