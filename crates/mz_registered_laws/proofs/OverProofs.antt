-- Terms, types and adjectives that were read with loci have no constant as they stand under them.
use Rattle.std.proofs.Common.{◌≡◌, ◌+◌, ℕ, zero, suc, true, List, refl, ap, subst, Option, None, Some}
use Rattle.std.specs.List.{list_all}
use Rattle.std.proofs.lemmas.Bool.{and_parts, and_from}
use Rattle.mz_logic.specs.Term.{Term}
use Rattle.mz_logic.proofs.ListLemmas.{list_all-map_where}
use Rattle.mz_core.specs.Abstraction.{statement_over}
use Rattle.mz_core.specs.Closed.{term_under, adjective_under, statement_under}
use Rattle.mz_core.specs.Statement.{Eq}
use Rattle.mz_core.specs.declared.adjective.Adjective.{Adjective}
use Rattle.mz_core.specs.declared.soft_type.SoftType.{SoftType}
use Rattle.mz_items.specs.Closed.{type_if_any_under}
use Rattle.mz_choice_laws.specs.Known.{term_known, adjective_known, type_known, statement_known}
use Rattle.mz_loci.specs.Loci.{statement_over_loci}
use Rattle.mz_loci_laws.proofs.OverProofs.{between, type_under_loci, statement_under_loci}
use Rattle.mz_cluster_items.specs.OverLoci.{term_over_loci, adjective_over_loci, adjectives_over_loci, type_if_any_over_loci}

-- a term as a statement
eq-over_loci : (lo k : ℕ) (t : Term) → statement_over_loci lo k (Eq t t) ≡ Eq (term_over_loci lo k t) (term_over_loci lo k t)
eq-over_loci lo zero t = refl
eq-over_loci lo (suc k) t = ap (statement_over (lo + k) 0) (eq-over_loci lo k t)

pub term_under_loci : (lo hi k : ℕ) (t : Term) → hi ≡ lo + k → term_known (between lo hi) 0 t ≡ true → term_under k (term_over_loci lo k t) ≡ true
term_under_loci lo hi k t e h =
    let both : statement_known (between lo hi) 0 (Eq t t) ≡ true = and_from (term_known (between lo hi) 0 t) (term_known (between lo hi) 0 t) h h in
    let there : statement_under k (statement_over_loci lo k (Eq t t)) ≡ true = statement_under_loci lo hi k (Eq t t) e both in
    let there_so : statement_under k (Eq (term_over_loci lo k t) (term_over_loci lo k t)) ≡ true = subst (λ s. statement_under k s ≡ true) (eq-over_loci lo k t) there in
    (and_parts (term_under k (term_over_loci lo k t)) (term_under k (term_over_loci lo k t)) there_so).0

adjective_under_loci : (lo hi k : ℕ) (a : Adjective) → hi ≡ lo + k → adjective_known (between lo hi) 0 a ≡ true → adjective_under k (adjective_over_loci lo k a) ≡ true
adjective_under_loci lo hi k a e h = list_all-map_where (term_known (between lo hi) 0) (term_under k) (term_over_loci lo k) (λ t j. term_under_loci lo hi k t e j) a.args h

pub adjectives_under_loci : (lo hi k : ℕ) (xs : List Adjective) → hi ≡ lo + k → list_all (adjective_known (between lo hi) 0) xs ≡ true → list_all (adjective_under k) (adjectives_over_loci lo k xs) ≡ true
adjectives_under_loci lo hi k xs e h = list_all-map_where (adjective_known (between lo hi) 0) (adjective_under k) (adjective_over_loci lo k) (λ a j. adjective_under_loci lo hi k a e j) xs h

pub type_if_any_under_loci : (lo hi k : ℕ) (o : Option SoftType) → hi ≡ lo + k → ((ty : SoftType) → o ≡ Some ty → type_known (between lo hi) 0 ty ≡ true) → type_if_any_under k (type_if_any_over_loci lo k o) ≡ true
type_if_any_under_loci lo hi k None e h = refl
type_if_any_under_loci lo hi k (Some ty) e h = type_under_loci lo hi k ty e (h ty refl)
