-- A mode with a plain definiens is inhabited.
use Rattle.std.proofs.Common.{◌≡◌, ℕ, true, List, ◌∷◌, length, reverse, refl, ◌∙◌, subst, arith}
use Rattle.std.specs.List.{list_all}
use Rattle.std.proofs.lemmas.Bool.{and_from}
use Rattle.mz_logic.specs.Term.{Term, Const}
use Rattle.mz_logic.specs.Indices.{closed}
use Rattle.mz_logic.specs.Substitution.{substitute_formula, value_at}
use Rattle.mz_logic.specs.Derives.{Derives}
use Rattle.mz_logic.proofs.Rules.{and_right}
use Rattle.mz_logic.proofs.Each.{Along, cut_each, each_along}
use Rattle.mz_core.specs.Statement.{Statement}
use Rattle.mz_core.specs.StatementForms.{implication, equivalence, for_some}
use Rattle.mz_core.specs.TypeStatements.{is_of_type_inside}
use Rattle.mz_core.specs.Erasure.{erase}
use Rattle.mz_core.specs.Closed.{term_under, statement_under}
use Rattle.mz_core.specs.Guard.{guard}
use Rattle.mz_core.specs.InForce.{term_in_force, type_in_force, statement_in_force}
use Rattle.mz_core.specs.declared.soft_type.SoftType.{SoftType}
use Rattle.mz_core.specs.declared.formula_definiens.FormulaDefiniens.{FormulaDefiniens}
use Rattle.mz_core.proofs.LawProofs.{in_force_at, statement_in_force-all}
use Rattle.mz_laws.proofs.StatementProofs.{type_substitution_in_force}
use Rattle.mz_items.specs.Loci.{over, mode_on}
use Rattle.mz_items.specs.DefinitionRows.{existence, mode_means, mode_defining_formula}
use Rattle.mz_items.proofs.RowLemmas.{mode_on_under}
use Rattle.mz_context.specs.Context.{next}
use Rattle.mz_clauses.specs.Guards.{guard_at_object}
use Rattle.mz_clause_laws.proofs.Instances.{formulas_at}
use Rattle.mz_clause_laws.proofs.Literals.{literals_out, implication_out}
use Rattle.mz_clause_laws.proofs.RowProofs.{for_type_out}
use Rattle.mz_types.specs.Known.{typing}
use Rattle.mz_chain_laws.proofs.Fired.{guard_at_term}
use Rattle.mz_chain_laws.proofs.Said.{closed_reverse}
use Rattle.mz_choice_laws.proofs.KnownValues.{statement_all-where}
use Rattle.mz_cover_laws.specs.Inhabited.{there_is, is_before, mode_at, ModeLaw}
use Rattle.mz_cover_laws.proofs.Contexts.{terms_closed}
use Rattle.mz_cover_laws.proofs.Existentials.{taken, some_out, under_in_force}
use Rattle.mz_cover_laws.proofs.Covers.{stated_at, terms_force, inhabited_in_force, value_forces, reverse_forces, under_type_in_force}

statement_under_in_force : (next n : ℕ) (s : Statement) → statement_under n s ≡ true → statement_in_force next s ≡ true
statement_under_in_force next n s h = statement_in_force-all next n s ∙ statement_all-where term_under (in_force_at next) n s (λ m t k. under_in_force next m t k) h

pub mode_law : ModeLaw
mode_law ax g e c h d s is under owed granted values known fit =
    let n : ℕ = next c in
    let loci : List SoftType = d.pattern.loci in
    let mode : SoftType = mode_on loci d.sym in
    let rvs : List Term = reverse values in
    let ts : List Term = Const n ∷ rvs in
    let in_values : list_all closed values ≡ true = terms_closed (is_before n) values known in
    let in_rvs : (i : ℕ) → term_in_force n (value_at rvs i) ≡ true = λ i. value_forces n rvs i (reverse_forces n values (terms_force n values known)) in
    let some : Derives ax g (substitute_formula 0 (value_at rvs) (erase (for_some d.ty s))) =
    stated_at ax g (typing e c) c.constants h.granted loci values in_values fit (for_some d.ty s) (subst (λ (x : FormulaDefiniens). Derives ax g (erase (over loci (existence d.ty x)))) is owed) in
    let meaning : Derives ax g (substitute_formula 0 (value_at rvs) (erase (mode_defining_formula mode d.ty s))) =
    stated_at ax g (typing e c) c.constants h.granted loci values in_values fit (mode_defining_formula mode d.ty s) (subst (λ (x : FormulaDefiniens). Derives ax g (erase (over loci (mode_means mode d.ty x)))) is granted) in
    let in_some : statement_in_force n (for_some d.ty s) ≡ true = statement_under_in_force n (length loci) (for_some d.ty s) (subst (λ (x : FormulaDefiniens). statement_under (length loci) (existence d.ty x) ≡ true) is under) in
    let in_mode : type_in_force n (mode_at d values) ≡ true = type_substitution_in_force n 0 (value_at rvs) mode in_rvs (under_type_in_force n (length loci) mode (mode_on_under loci d.sym)) in
    some_out ax g n rvs d.ty s (erase (there_is (mode_at d values))) h.premises_so in_rvs in_some (inhabited_in_force n (mode_at d values) in_mode) some
    (λ k each object holds.
    let inner : Derives ax k (substitute_formula 0 (value_at ts) (erase (equivalence (is_of_type_inside mode) s))) =
    for_type_out ax k ts d.ty (equivalence (is_of_type_inside mode) s) (and_from (closed (Const n)) (list_all closed rvs) refl (closed_reverse values in_values)) (omega arith) object
    (cut_each ax k g (substitute_formula 0 (value_at rvs) (erase (mode_defining_formula mode d.ty s))) each meaning) in
    let back : Derives ax k (substitute_formula 0 (value_at ts) (erase (implication s (is_of_type_inside mode)))) =
    and_right ax k (substitute_formula 0 (value_at ts) (erase (implication (is_of_type_inside mode) s))) (substitute_formula 0 (value_at ts) (erase (implication s (is_of_type_inside mode)))) inner in
    let parts : Along ax k (formulas_at ts (guard_at_object mode)) = literals_out ax k ts (guard_at_object mode) (implication_out ax k (value_at ts) s (is_of_type_inside mode) holds back) in
    taken ax k (mode_at d values) n (each_along ax k (guard (mode_at d values) (Const n)) (subst (Along ax k) (guard_at_term (Const n) rvs mode) parts)))
