-- What each part of the closing of a graph keeps and reaches.
use Rattle.std.specs.Prelude.{◌≡◌, ℕ, ◌<◌, ◌≤◌, Bool, true, false, ◌&&◌, List, ◌++◌, map, length, slice_index, slice_get, Some, Contains, nat_eq, nat_lt, ◌↔◌}
use Rattle.std.specs.List.{list_all}
use Rattle.mz_congruence.specs.declared.graph.Node.{Node}
use Rattle.mz_congruence.specs.declared.graph.Pair.{Pair}
use Rattle.mz_congruence.specs.declared.graph.Rule.{Rule}
use Rattle.mz_congruence.specs.declared.graph.Graph.{Graph}
use Rattle.mz_congruence.specs.declared.signatures.Signatures.{Signatures}
use Rattle.mz_congruence.specs.Congruence.{Equal, AllEqual}
use Rattle.mz_congruence.specs.Classes.{root, Descends, Flat, total, Progress, Sound}
use Rattle.mz_congruence.specs.Signature.{head_code, signature, place_of}

-- the pair is one by the classes
abbrev pub same : (ℕ → ℕ) → Pair → Bool
same r p = nat_eq (r p.left) (r p.right)

abbrev pub below : ℕ → ℕ → Bool
below n i = nat_lt i n

abbrev pub pair_below : ℕ → Pair → Bool
pair_below n p = nat_lt p.left n && nat_lt p.right n

-- all numbers are those of nodes
pub record IsWithin (g : Graph) : Type 0 where
  pub args : (i : ℕ) (a : Node) → slice_get g.nodes i ≡ Some a → list_all (below (length g.nodes)) a.args ≡ true
  pub premises : (r : Rule) → Contains g.rules r → list_all (pair_below (length g.nodes)) r.premises ≡ true
  pub conclusion : (r : Rule) → Contains g.rules r → (r.conclusion.left < length g.nodes) × (r.conclusion.right < length g.nodes)

-- the classes are exactly the equal nodes
pub record Exact (g : Graph) (c : List ℕ) : Type 0 where
  pub len : length c ≡ length g.nodes
  -- the number of a class is its least node
  pub descends : Descends c
  pub flat : Flat c
  pub same : (i j : ℕ) → i < length g.nodes → j < length g.nodes → (slice_index c i ≡ slice_index c j) ↔ Equal g i j

-- classes of the nodes that hold equal nodes only
pub record State (g : Graph) (c : List ℕ) : Type 0 where
  pub len : length c ≡ length g.nodes
  pub descends : Descends c
  pub sound : Sound g c

-- the node at j has the signature s, by numbers that are equal to its arguments
pub record Entry (g : Graph) (s : List ℕ) (j : ℕ) : Type 0 where
  pub node : Node
  pub at : slice_get g.nodes j ≡ Some node
  pub roots : List ℕ
  pub is : s ≡ head_code node.head ++ roots
  pub equal : AllEqual g node.args roots

unfoldable pub Entries : Graph → Signatures → Type 0
Entries g t = (s : List ℕ) (j : ℕ) → place_of t s ≡ Some j → Entry g s j

-- the table has the node's signature with a place of its class
pub record Listed (g : Graph) (c : List ℕ) (t : Signatures) (i : ℕ) (a : Node) : Type 0 where
  pub place : ℕ
  pub at : place_of t (signature (root c) a) ≡ Some place
  pub one : root c place ≡ root c i

abbrev pub ListedUnless : Bool → Graph → List ℕ → Signatures → ℕ → Type 0
ListedUnless true g c t i = Unit {0}
ListedUnless false g c t i = (a : Node) → slice_get g.nodes i ≡ Some a → Listed g c t i a

abbrev pub ListedBelow : Bool → Graph → List ℕ → Signatures → ℕ → Type 0
ListedBelow true g c t n = Unit {0}
ListedBelow false g c t n = (i : ℕ) (a : Node) → i < n → slice_get g.nodes i ≡ Some a → Listed g c t i a

-- what the table t had, u has
unfoldable pub Grows : Signatures → Signatures → Type 0
Grows t u = (s : List ℕ) (j : ℕ) → place_of t s ≡ Some j → place_of u s ≡ Some j

pub record Entered (g : Graph) (m : Bool) (c d : List ℕ) (t u : Signatures) (i : ℕ) : Type 0 where
  pub state : State g d
  pub progress : Progress m c d
  pub entries : Entries g u
  pub grows : Grows t u
  pub listed : ListedUnless m g d u i

-- congruent nodes have one class
unfoldable pub Clean : Graph → List ℕ → Type 0
Clean g c = (i j : ℕ) (a b : Node) → slice_get g.nodes i ≡ Some a → slice_get g.nodes j ≡ Some b → a.head ≡ b.head → map (root c) a.args ≡ map (root c) b.args → root c i ≡ root c j

abbrev pub CleanUnless : Bool → Graph → List ℕ → Type 0
CleanUnless true g c = Unit {0}
CleanUnless false g c = Clean g c

pub record CongruentMerged (g : Graph) (m : Bool) (c d : List ℕ) : Type 0 where
  pub state : State g d
  pub progress : Progress m c d
  pub clean : CleanUnless m g d

-- where the premises of the rule are one, its conclusion is
unfoldable pub IsMet : List ℕ → Rule → Type 0
IsMet c r = list_all (same (root c)) r.premises ≡ true → root c r.conclusion.left ≡ root c r.conclusion.right

abbrev pub MetUnless : Bool → Graph → List ℕ → ℕ → Type 0
MetUnless true g c k = Unit {0}
MetUnless false g c k = (r : Rule) → slice_get g.rules k ≡ Some r → IsMet c r

abbrev pub MetBelow : Bool → Graph → List ℕ → ℕ → Type 0
MetBelow true g c n = Unit {0}
MetBelow false g c n = (k : ℕ) (r : Rule) → k < n → slice_get g.rules k ≡ Some r → IsMet c r

pub record RuleApplied (g : Graph) (m : Bool) (c d : List ℕ) (k : ℕ) : Type 0 where
  pub state : State g d
  pub progress : Progress m c d
  pub met : MetUnless m g d k

pub record RulesApplied (g : Graph) (m : Bool) (c d : List ℕ) : Type 0 where
  pub state : State g d
  pub progress : Progress m c d
  pub met : MetBelow m g d (length g.rules)

-- no rule is left
pub record Saturated (g : Graph) (c d : List ℕ) : Type 0 where
  pub state : State g d
  pub less : total d ≤ total c
  pub met : MetBelow false g d (length g.rules)

-- no step is left
abbrev pub DoneUnless : Bool → Graph → List ℕ → Type 0
DoneUnless true g c = Unit {0}
DoneUnless false g c = Clean g c × MetBelow false g c (length g.rules)
