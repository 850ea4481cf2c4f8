-- Classes of nodes by labels.
use Rattle.std.specs.Prelude.{◌≡◌, ◌<◌, ◌≤◌, ◌⊎◌, ℕ, List, length, slice_index}
use Rattle.mz_congruence.specs.declared.graph.Graph.{Graph}
use Rattle.mz_congruence.specs.Congruence.{Equal}

-- nodes with one label are equal
pub record Labelled (g : Graph) (c : List ℕ) : Type 0 where
  pub len : length c ≡ length g.nodes
  pub sound : (i j : ℕ) → i < length g.nodes → j < length g.nodes → slice_index c i ≡ slice_index c j → Equal g i j

-- each number keeps its label, or had `from` and has `to`
pub record Relabelled (from to : ℕ) (c d : List ℕ) : Type 0 where
  pub len : length d ≡ length c
  pub each : (i : ℕ) → (slice_index d i ≡ slice_index c i) ⊎ ((slice_index c i ≡ from) × (slice_index d i ≡ to))

-- each number leads to one with its label that is not greater
pub record LeadWithinClasses (labels c : List ℕ) : Type 0 where
  pub len : length c ≡ length labels
  pub earlier : (i : ℕ) → i < length labels → slice_index c i ≤ i
  pub same : (i : ℕ) → i < length labels → slice_index labels (slice_index c i) ≡ slice_index labels i
