-- The layers that a ground part has while it is made.
use Rattle.std.specs.Prelude.{◌≡◌, ◌<◌, ◌≤◌, ◌↔◌, ℕ, zero, suc, List, [], ◌∷◌, ◌++◌, length}
use Rattle.mz_logic.specs.declared.disjunct.Disjunct.{Disjunct}
use Rattle.mz_ground.specs.GroundExpression.{GroundExpression}
use Rattle.mz_ground.specs.Layers.{InLayer}
use Rattle.mz_ground.specs.Ground.{end_of, most_terms, most_atoms}
use Rattle.mz_ground.specs.Growth.{IsMember, IsStored, IsNumbered}
use Rattle.mz_ground.specs.Instances.{IsBefore, IsEndIn}
use Rattle.mz_ground.specs.declared.clause.Clause.{Clause}
use Rattle.mz_ground.specs.declared.ground_part.Ground.{Ground}
use Rattle.mz_ground.specs.declared.ground_term.GroundTerm.TheVariants.{Const}
use Rattle.mz_ground.specs.declared.layer_ends.LayerEnd.{LayerEnd}
use Rattle.mz_ground.specs.declared.ground_fault.GroundFault.{GroundFault}
use Rattle.mz_ground.specs.declared.ground_fault.GroundFault.TheVariants.{TooManyTerms, TooManyAtoms, Memory}

-- how many terms, atoms and equations there are
abbrev pub whole_end : Ground → LayerEnd
whole_end g = record { terms = length g.terms; atoms = length g.atoms; equations = length g.equations }

-- before the end stand the expressions of the layer m, no more of them than the limits
pub record HasLayer (d : Disjunct) (cs : List Clause) (g : Ground) (m : ℕ) (e : LayerEnd) : Type 0 where
  pub within : IsEndIn g e
  pub members : (p : GroundExpression) → (IsBefore g e p ↔ InLayer d cs m p)
  pub terms : e.terms ≤ most_terms
  pub atoms : e.atoms ≤ most_atoms

-- the constant 0 alone
pub record IsFirst (g : Ground) : Type 0 where
  pub terms : g.terms ≡ Const 0 ∷ []
  pub atoms : g.atoms ≡ []
  pub equations : g.equations ≡ []
  pub ends : g.ends ≡ []

-- the layers before the layer n are there, and of the layer n as much as the limits allow
pub record IsFilling (d : Disjunct) (cs : List Clause) (g : Ground) (n : ℕ) : Type 0 where
  pub numbered : IsNumbered g
  pub count : length g.ends ≡ n
  pub layers : (m : ℕ) → m < n → HasLayer d cs g m (end_of g m)
  pub sound : (p : GroundExpression) → IsMember g p → InLayer d cs n p
  pub complete : length g.terms ≤ most_terms → (p : GroundExpression) → InLayer d cs n p → IsStored g p

-- nothing
abbrev pub no_layer : LayerEnd
no_layer = record { terms = 0; atoms = 0; equations = 0 }

-- the end of the layer before the layer n
abbrev pub IsStart : Ground → ℕ → LayerEnd → Type 0
IsStart g zero s = s ≡ no_layer
IsStart g (suc n) s = s ≡ end_of g n

-- the layers up to the layer n are there, and nothing else
pub record IsFilled (d : Disjunct) (cs : List Clause) (g : Ground) (n : ℕ) : Type 0 where
  pub numbered : IsNumbered g
  pub count : length g.ends ≡ suc n
  pub layers : (m : ℕ) → m < suc n → HasLayer d cs g m (end_of g m)
  pub last : end_of g n ≡ whole_end g

-- the end of the layer is noted, which keeps the limits
pub record IsClosed (g h : Ground) : Type 0 where
  pub terms : h.terms ≡ g.terms
  pub atoms : h.atoms ≡ g.atoms
  pub equations : h.equations ≡ g.equations
  pub ends : h.ends ≡ g.ends ++ whole_end g ∷ []
  pub few_terms : length g.terms ≤ most_terms
  pub few_atoms : length g.atoms ≤ most_atoms

-- why it isn't
abbrev pub ClosingFails : Ground → GroundFault → Type 0
ClosingFails g TooManyTerms = most_terms < length g.terms
ClosingFails g TooManyAtoms = (length g.terms ≤ most_terms) × (most_atoms < length g.atoms)
ClosingFails g Memory = Unit {0}
