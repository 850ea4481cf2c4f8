-- The labels of definientia, and definientia under the loci of a block.
use Rattle.std.specs.Prelude.{ℕ, List, [], map, Option, Some, None}
use Rattle.mz_core.specs.declared.formula_definiens.FormulaCase.{FormulaCase}
use Rattle.mz_core.specs.declared.formula_definiens.FormulaDefiniens.{FormulaDefiniens}
use Rattle.mz_core.specs.declared.formula_definiens.FormulaDefiniens.TheVariants as formula
use Rattle.mz_core.specs.declared.term_definiens.TermCase.{TermCase}
use Rattle.mz_core.specs.declared.term_definiens.TermDefiniens.{TermDefiniens}
use Rattle.mz_core.specs.declared.term_definiens.TermDefiniens.TheVariants as term
use Rattle.mz_cluster_items.specs.OverLoci.{term_over_loci}
use Rattle.mz_loci.specs.Loci.{statement_over_loci}
use Rattle.mz_tree_heading.specs.declared.meaning.DefinitionLabelTree.{DefinitionLabelTree}
use Rattle.mz_tree_heading.specs.declared.meaning.MeaningTree.{MeaningTree}
use Rattle.mz_tree_heading.specs.declared.meaning.MeaningTree.TheVariants.{Means, Equals}

-- the label of a definiens, which is empty where none is written
abbrev pub label_of : Option DefinitionLabelTree → List ℕ
label_of None = []
label_of (Some l) = l.name.spelling

abbrev pub label_in : MeaningTree → List ℕ
label_in (Means means label cs) = label_of label
label_in (Equals equals label cs) = label_of label

-- what was read in a block whose loci are the constants from `least` on, as it stands under them: conditions under `count` loci, formulas as
-- definientia under `inner`, which is one more where `it` is known
abbrev pub formula_case_over : ℕ → ℕ → ℕ → FormulaCase → FormulaCase
formula_case_over least count inner k = record { condition = statement_over_loci least count k.condition; definiens = statement_over_loci least inner k.definiens }

abbrev pub formulas_over : ℕ → ℕ → ℕ → FormulaDefiniens → FormulaDefiniens
formulas_over least count inner (formula.Plain d) = formula.Plain (statement_over_loci least inner d)
formulas_over least count inner (formula.Cases ks) = formula.Cases (map (formula_case_over least count inner) ks)
formulas_over least count inner (formula.CasesOtherwise ks d) = formula.CasesOtherwise (map (formula_case_over least count inner) ks) (statement_over_loci least inner d)

abbrev pub term_case_over : ℕ → ℕ → TermCase → TermCase
term_case_over least count k = record { condition = statement_over_loci least count k.condition; definiens = term_over_loci least count k.definiens }

abbrev pub terms_over : ℕ → ℕ → TermDefiniens → TermDefiniens
terms_over least count (term.Plain d) = term.Plain (term_over_loci least count d)
terms_over least count (term.Cases ks) = term.Cases (map (term_case_over least count) ks)
terms_over least count (term.CasesOtherwise ks d) = term.CasesOtherwise (map (term_case_over least count) ks) (term_over_loci least count d)
