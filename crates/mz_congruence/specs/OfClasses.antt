-- How facts are taken of the classes of nodes, and what the parts of the calls on facts tell.
use Rattle.std.specs.Prelude.{◌≡◌, ◌<◌, ℕ, Bool, true, false, List, length, slice_index, slice_get, Some, nat_eq}
use Rattle.mz_logic.specs.Term.{Term}
use Rattle.mz_logic.specs.declared.disjunct.Disjunct.{Disjunct}
use Rattle.mz_ground.specs.Ground.{IsGround}
use Rattle.mz_ground.specs.declared.clause.Clause.{Clause}
use Rattle.mz_ground.specs.declared.ground_part.Ground.{Ground}
use Rattle.mz_ground.specs.declared.ground_equation.GroundEquation.{GroundEquation}
use Rattle.mz_congruence.specs.declared.fact_table.FactTable.{FactTable}
use Rattle.mz_congruence.specs.Nodes.{atom_place, disequal_place, yes_place}
use Rattle.mz_congruence.specs.Codes.{IsEquationPlace}
use Rattle.mz_congruence.specs.FactTable.{flag_at}

-- f has the classes of the ground terms, and says of each other node whether it has the class of truth
pub record IsOfClasses (g : Ground) (c : List ℕ) (f : FactTable) : Type 0 where
  pub ground : f.ground ≡ g
  pub classes_len : length f.classes.items ≡ length g.terms
  pub positive_len : length f.positive.items ≡ length g.atoms
  pub negative_len : length f.negative.items ≡ length g.atoms
  pub disequal_len : length f.disequal.items ≡ length g.equations
  pub classes : (k : ℕ) → k < length g.terms → slice_index f.classes.items k ≡ slice_index c k
  pub positive : (k : ℕ) → k < length g.atoms → flag_at f.positive.items k ≡ nat_eq (slice_index c (atom_place g true k)) (slice_index c (yes_place g))
  pub negative : (k : ℕ) → k < length g.atoms → flag_at f.negative.items k ≡ nat_eq (slice_index c (atom_place g false k)) (slice_index c (yes_place g))
  pub disequal : (k : ℕ) → k < length g.equations → flag_at f.disequal.items k ≡ nat_eq (slice_index c (disequal_place g k)) (slice_index c (yes_place g))

-- some ground atom has both flags
abbrev pub AtomClash : FactTable → Bool → Type 0
AtomClash f true = (k : ℕ) × (k < length f.ground.atoms) × (flag_at f.positive.items k ≡ true) × (flag_at f.negative.items k ≡ true)
AtomClash f false = (k : ℕ) → k < length f.ground.atoms → flag_at f.positive.items k ≡ true → flag_at f.negative.items k ≡ true → ⊥

-- some ground equation that fails has sides of one class
abbrev pub EquationClash : FactTable → Bool → Type 0
EquationClash f true = (k : ℕ) × (e : GroundEquation) × (slice_get f.ground.equations k ≡ Some e) × (flag_at f.disequal.items k ≡ true) × (slice_index f.classes.items e.left ≡ slice_index f.classes.items e.right)
EquationClash f false = (k : ℕ) (e : GroundEquation) → slice_get f.ground.equations k ≡ Some e → flag_at f.disequal.items k ≡ true → slice_index f.classes.items e.left ≡ slice_index f.classes.items e.right → ⊥

abbrev pub IsDisequal : FactTable → Term → Term → Bool → Type 0
IsDisequal f t u true = (k : ℕ) × (e : GroundEquation) × IsEquationPlace f.ground k e t u × (flag_at f.disequal.items k ≡ true)
IsDisequal f t u false = (k : ℕ) (e : GroundEquation) → IsEquationPlace f.ground k e t u → flag_at f.disequal.items k ≡ true → ⊥

-- b tells whether the equation is a ground equation that fails
unfoldable pub DecidesDisequal : FactTable → Term → Term → Bool → Type 0
DecidesDisequal f t u b = (d : Disjunct) (cs : List Clause) → IsGround d cs f.ground → IsDisequal f t u b
