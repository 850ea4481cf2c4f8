-- How many cases a definition has.
use Rattle.std.specs.Prelude.{ℕ, length}
use Rattle.mz_core.specs.declared.item.Item.{Item}
use Rattle.mz_core.specs.declared.item.Item.TheVariants as item
use Rattle.mz_items.specs.Cases.{formula_cases, term_cases}

abbrev pub case_count : Item → ℕ
case_count (item.Axiom s) = 0
case_count (item.AxiomScheme s) = 0
case_count (item.Primitive n) = 0
case_count (item.Theorem s) = 0
case_count (item.Scheme s) = 0
case_count (item.FunctorMeans d) = length (formula_cases d.definiens)
case_count (item.FunctorEquals d) = length (term_cases d.definiens)
case_count (item.Predicate d) = length (formula_cases d.definiens)
case_count (item.Attribute d) = length (formula_cases d.definiens)
case_count (item.ModeMeans d) = length (formula_cases d.definiens)
case_count (item.Abbreviation n) = 0
case_count (item.Notation n) = 0
case_count (item.RedefinedFunctor d) = 0
case_count (item.RedefinedMode d) = 0
case_count (item.RedefinedPredicate d) = 0
case_count (item.RedefinedAttribute d) = 0
case_count (item.Property p) = 0
case_count (item.Existential r) = 0
case_count (item.Conditional r) = 0
case_count (item.Functorial r) = 0
case_count (item.Reduction r) = 0
case_count (item.Identification r) = 0
case_count (item.Structure s) = 0
case_count (item.SetTerm s) = 0
case_count (item.Choice c) = 0
