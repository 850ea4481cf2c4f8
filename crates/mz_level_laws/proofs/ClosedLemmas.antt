-- What has no constant and no loose index stands in each context.
use Rattle.std.proofs.Common.{◌≡◌, ℕ, true, false, sym, ◌∙◌}
use Rattle.std.proofs.lemmas.Bool.{true≢false}
use Rattle.mz_logic.specs.Indices.{is_below}
use Rattle.mz_core.specs.Closed.{term_under, statement_under}
use Rattle.mz_core.specs.InForce.{statement_in_force}
use Rattle.mz_core.specs.Below.{statement_below}
use Rattle.mz_core.specs.Statement.{Statement}
use Rattle.mz_core.proofs.LawProofs.{in_force_at, statement_in_force-all}
use Rattle.mz_choice_laws.proofs.KnownTerms.{term_known-under, term_known-below, term_known-in_force}
use Rattle.mz_choice_laws.proofs.KnownValues.{statement_all-where}
use Rattle.mz_level_laws.specs.Level.{ClosedLaw}

no_constants : (next : ℕ) (s : Statement) → statement_under 0 s ≡ true → statement_in_force next s ≡ true
no_constants next s h =
    statement_in_force-all next 0 s ∙ statement_all-where term_under (in_force_at next) 0 s (λ m t k. term_known-in_force (λ c. false) next (λ c e. absurd (true≢false (sym e))) m t (term_known-under (λ c. false) m t k)) h

no_loose_index : (s : Statement) → statement_under 0 s ≡ true → statement_below 0 s ≡ true
no_loose_index s h = statement_all-where term_under is_below 0 s (λ m t k. term_known-below (λ c. false) m t (term_known-under (λ c. false) m t k)) h

pub closed_law : ClosedLaw
closed_law n s h = (no_constants n s h, no_loose_index s h)
