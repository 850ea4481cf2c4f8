-- The terms at which a trigger has a ground instance.
use Rattle.std.specs.Prelude.{◌≡◌, ◌<◌, ℕ, Bool, true, List, length, map, Option, None, Some, slice_get}
use Rattle.std.specs.List.{list_any}
use Rattle.mz_logic.specs.Term.{Term}
use Rattle.mz_logic.specs.Substitution.{substitute, value_at}
use Rattle.mz_ground.specs.Variables.{has_index}
use Rattle.mz_ground.specs.Ground.{term_at}
use Rattle.mz_ground.specs.Table.{entry_terms}
use Rattle.mz_ground.specs.declared.ground_term.GroundTerm.{GroundTerm}

-- wherever E holds of terms, the term for the index is that at the place; there is no place only where E holds of none or the index doesn't occur
abbrev pub IsValue : List GroundTerm → ℕ → (List Term → Type 0) → Bool → Option ℕ → Type 0
IsValue es index E occurs None = occurs ≡ true → (ts : List Term) → index < length ts → E ts → ⊥
IsValue es index E occurs (Some place) = (place < length es) × ((ts : List Term) → index < length ts → E ts → slice_get ts index ≡ Some (term_at (entry_terms es) place))

-- what stands for the index where t at the terms is the term at the place
pub record IsTermValue (es : List GroundTerm) (index : ℕ) (t : Term) (place : ℕ) (r : Option ℕ) : Type 0 where
  pub value : IsValue es index (λ ts. substitute 0 (value_at ts) t ≡ term_at (entry_terms es) place) (has_index index t) r

-- what stands for the index where us at the terms are the terms at the places
pub record AreTermsValue (es : List GroundTerm) (index : ℕ) (us : List Term) (places : List ℕ) (r : Option ℕ) : Type 0 where
  pub value : IsValue es index (λ ts. map (substitute 0 (value_at ts)) us ≡ map (term_at (entry_terms es)) places) (list_any (has_index index) us) r
