-- When two nodes of a graph are equal: the least congruence that meets the rules.
use Rattle.std.specs.Prelude.{◌≡◌, ℕ, List, [], ◌∷◌, map, slice_get, Some, Contains}
use Rattle.mz_congruence.specs.declared.graph.Node.{Node}
use Rattle.mz_congruence.specs.declared.graph.Pair.{Pair}
use Rattle.mz_congruence.specs.declared.graph.Rule.{Rule}
use Rattle.mz_congruence.specs.declared.graph.Graph.{Graph}

abbrev pub left_of : Pair → ℕ
left_of p = p.left

abbrev pub right_of : Pair → ℕ
right_of p = p.right

mutual
  pub data Equal (g : Graph) : ℕ → ℕ → Type 0 where
    reflexive : (i : ℕ) → Equal g i i
    symmetric : (i j : ℕ) → Equal g i j → Equal g j i
    transitive : (i j k : ℕ) → Equal g i j → Equal g j k → Equal g i k
    congruent : (i j : ℕ) (a b : Node) → slice_get g.nodes i ≡ Some a → slice_get g.nodes j ≡ Some b → a.head ≡ b.head → AllEqual g a.args b.args → Equal g i j
    applied : (r : Rule) → Contains g.rules r → AllEqual g (map left_of r.premises) (map right_of r.premises) → Equal g r.conclusion.left r.conclusion.right

  pub data AllEqual (g : Graph) : List ℕ → List ℕ → Type 0 where
    none : AllEqual g [] []
    more : (i j : ℕ) (is js : List ℕ) → Equal g i j → AllEqual g is js → AllEqual g (i ∷ is) (j ∷ js)
