-- The constants of several formulas.
use Rattle.std.proofs.Common.{◌≡◌, ℕ, Bool, true, false, List, [], ◌∷◌, refl, sym, ◌∙◌}
use Rattle.std.specs.Prelude.{◌&&◌, ◌||◌, nat_eq, nat_lt, flat_map}
use Rattle.std.proofs.lemmas.List.Folds.{list_any-append}
use Rattle.mz_logic.specs.Formula.{Formula}
use Rattle.mz_logic.specs.Constants.{occurs_in_formula}
use Rattle.mz_context.specs.Occurring.{is_among, formula_constants}
use Rattle.mz_context.proofs.OccurringLemmas.{formula_among}
use Rattle.mz_problem.specs.Asked.{occurs_in_some}

and_false : (b : Bool) → (b && false) ≡ false
and_false true = refl
and_false false = refl

and_or : (b x y : Bool) → ((b && x) || (b && y)) ≡ (b && (x || y))
and_or true x y = refl
and_or false x y = refl

pub formulas_among : (k c : ℕ) (fs : List Formula) → is_among (flat_map (formula_constants k) fs) c ≡ (nat_lt c k && occurs_in_some fs c)
formulas_among k c [] = sym (and_false (nat_lt c k))
formulas_among k c (f ∷ fs) =
    list_any-append (nat_eq c) (formula_constants k f) (flat_map (formula_constants k) fs) ∙ (λ i. formula_among k c f i || formulas_among k c fs i) ∙ and_or (nat_lt c k) (occurs_in_formula c f) (occurs_in_some fs c)
