-- The two nodes of a literal, and which rules are put among others.
use Rattle.std.specs.Prelude.{◌≡◌, ◌<◌, ◌⊎◌, ℕ, List, [], map, length, Option, None, Some, slice_get, Contains}
use Rattle.mz_logic.specs.Term.{Term}
use Rattle.mz_logic.specs.declared.literal.Literal.{Literal}
use Rattle.mz_logic.specs.declared.disjunct.Disjunct.{Disjunct}
use Rattle.mz_ground.specs.Ground.{term_at, ground_terms, IsGround}
use Rattle.mz_ground.specs.Instance.{literal_at, trigger_at, premises_at, conclusion_at}
use Rattle.mz_ground.specs.Heads.{AreTriggerPlaces}
use Rattle.mz_ground.specs.Instances.{expression_at, place_like}
use Rattle.mz_ground.specs.Making.{no_layer, whole_end}
use Rattle.mz_ground.specs.declared.clause.Clause.{Clause}
use Rattle.mz_ground.specs.declared.trigger.Trigger.{Trigger}
use Rattle.mz_ground.specs.declared.trigger.Trigger.TheVariants as trigger
use Rattle.mz_ground.specs.declared.ground_part.Ground.{Ground}
use Rattle.mz_ground.specs.declared.ground_equation.GroundEquation.{GroundEquation}
use Rattle.mz_ground.specs.declared.trigger_places.TriggerPlaces.{TriggerPlaces}
use Rattle.mz_congruence.specs.declared.graph.Pair.{Pair}
use Rattle.mz_congruence.specs.declared.graph.Rule.{Rule}
use Rattle.mz_congruence.specs.Nodes.{disequal_place}
use Rattle.mz_congruence.specs.Codes.{Codes, CodesAll, rule_of}

-- the numbers are places of ground terms
abbrev pub AllWithin : Ground → List ℕ → Type 0
AllWithin g is = (k : ℕ) → Contains is k → k < length g.terms

-- the terms at the places
abbrev pub terms_at : Ground → List ℕ → List Term
terms_at g args = map (term_at (ground_terms g)) args

-- the two nodes of the literal; there are none where its atom or equation is not ground
abbrev pub IsPairOf : Ground → Literal → Option Pair → Type 0
IsPairOf g l None = (i j : ℕ) → Codes g l i j → ⊥
IsPairOf g l (Some p) = Codes g l p.left p.right

abbrev pub ArePairsOf : Ground → List Literal → Option (List Pair) → Type 0
ArePairsOf g ls None = (ps : List Pair) → CodesAll g ls ps → ⊥
ArePairsOf g ls (Some ps) = CodesAll g ls ps

unfoldable pub PairOf : Ground → List ℕ → Literal → Option Pair → Type 0
PairOf g args l r = (d : Disjunct) (cs : List Clause) → IsGround d cs g → AllWithin g args → IsPairOf g (literal_at (terms_at g args) l) r

unfoldable pub PairsOf : Ground → List ℕ → List Literal → Option (List Pair) → Type 0
PairsOf g args ls r = (d : Disjunct) (cs : List Clause) → IsGround d cs g → AllWithin g args → ArePairsOf g (map (literal_at (terms_at g args)) ls) r

-- the new list has the old rules and those that meet P, and no others
pub record Adds (P : Rule → Type 0) (old new : List Rule) : Type 0 where
  pub kept : (r : Rule) → Contains old r → Contains new r
  pub added : (r : Rule) → P r → Contains new r
  pub only : (r : Rule) → Contains new r → Contains old r ⊎ P r

-- the rule meets Q at some number below n
abbrev pub Below : (ℕ → Rule → Type 0) → ℕ → Rule → Type 0
Below Q n r = (k : ℕ) × (k < n) × Q k r

-- the rule meets Q at one of the numbers
abbrev pub Among : (ℕ → Rule → Type 0) → List ℕ → Rule → Type 0
Among Q ks r = (k : ℕ) × Contains ks k × Q k r

-- the places are those of all terms and atoms of the ground part, by their heads
pub record AreWholePlaces (g : Ground) (x : TriggerPlaces) : Type 0 where
  pub places : AreTriggerPlaces g x
  pub start : x.start ≡ no_layer
  pub end : x.end ≡ whole_end g

-- the rule by which the literal k holds
abbrev pub IsLiteralRule : Ground → List Literal → ℕ → Rule → Type 0
IsLiteralRule g ls k r = (l : Literal) × (i : ℕ) × (j : ℕ) × (slice_get ls k ≡ Some l) × Codes g l i j × (r ≡ rule_of [] i j)

-- the rule by which the ground equation k fails where its exchange does
abbrev pub IsExchangeRule : Ground → ℕ → Rule → Type 0
IsExchangeRule g k r = (e : GroundEquation) × (m : ℕ) × (f : GroundEquation) × (slice_get g.equations k ≡ Some e) × (slice_get g.equations m ≡ Some f) × (e.left ≡ f.right) × (e.right ≡ f.left) × (r ≡ rule_of [] (disequal_place g k) (disequal_place g m))

-- the rule of the clause at the terms
abbrev pub IsInstanceRule : Ground → Clause → List Term → Rule → Type 0
IsInstanceRule g c ts r = (ps : List Pair) × (i : ℕ) × (j : ℕ) × CodesAll g (premises_at c ts) ps × Codes g (conclusion_at c ts) i j × (r ≡ rule_of ps i j)

-- the rule of the clause at terms whose trigger is the ground term or atom at the place
abbrev pub IsPlaceRule : Ground → Clause → ℕ → Rule → Type 0
IsPlaceRule g c k r = (ts : List Term) × (length ts ≡ c.variables) × (trigger_at ts c.trigger ≡ expression_at g (place_like c.trigger k)) × IsInstanceRule g c ts r

-- how many ground terms or atoms a trigger may be
abbrev pub places_for : Ground → Trigger → ℕ
places_for g (trigger.Term t) = length g.terms
places_for g (trigger.Atom s ts) = length g.atoms

-- the rule of the clause k at some place
abbrev pub IsClauseRule : Ground → List Clause → ℕ → Rule → Type 0
IsClauseRule g cs k r = (c : Clause) × (slice_get cs k ≡ Some c) × Below (IsPlaceRule g c) (places_for g c.trigger) r

-- the new list has the old rules and those that meet P, where g is a ground part
unfoldable pub AddsRules : Ground → (Rule → Type 0) → List Rule → List Rule → Type 0
AddsRules g P old new = (d : Disjunct) (cs : List Clause) → IsGround d cs g → Adds P old new

unfoldable pub AddsInstance : Ground → List ℕ → Clause → List Rule → List Rule → Type 0
AddsInstance g args c old new = (d : Disjunct) (cs : List Clause) → IsGround d cs g → AllWithin g args → Adds (IsInstanceRule g c (terms_at g args)) old new
