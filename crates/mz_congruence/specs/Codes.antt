-- Which two nodes stand for a literal: it is a fact exactly where the two are equal. Which rules a graph has.
use Rattle.std.specs.Prelude.{◌≡◌, ℕ, ◌<◌, true, false, List, [], ◌∷◌, map, length, slice_get, Some, Contains}
use Rattle.mz_logic.specs.declared.sym.Sym.{Sym}
use Rattle.mz_logic.specs.Term.{Term}
use Rattle.mz_logic.specs.declared.literal.Literal.{Literal}
use Rattle.mz_logic.specs.declared.literal.Literal.TheVariants.{Atom, Eq}
use Rattle.mz_logic.specs.declared.disjunct.Disjunct.{Disjunct}
use Rattle.mz_ground.specs.Ground.{term_at, ground_terms}
use Rattle.mz_ground.specs.Instance.{trigger_at, premises_at, conclusion_at}
use Rattle.mz_ground.specs.Layers.{IsGroundExpression}
use Rattle.mz_ground.specs.declared.clause.Clause.{Clause}
use Rattle.mz_ground.specs.declared.ground_part.Ground.{Ground}
use Rattle.mz_ground.specs.declared.ground_atom.GroundAtom.{GroundAtom}
use Rattle.mz_ground.specs.declared.ground_equation.GroundEquation.{GroundEquation}
use Rattle.mz_congruence.specs.Nodes.{nodes_of, atom_place, disequal_place, yes_place}
use Rattle.mz_congruence.specs.declared.graph.Pair.{Pair}
use Rattle.mz_congruence.specs.declared.graph.Rule.{Rule}
use Rattle.mz_congruence.specs.declared.graph.Graph.{Graph}

-- the term stands at the place
abbrev pub IsTermPlace : Ground → ℕ → Term → Type 0
IsTermPlace g i t = (i < length g.terms) × (term_at (ground_terms g) i ≡ t)

-- the ground atom at the place is this one
abbrev pub IsAtomPlace : Ground → ℕ → Sym → List Term → Type 0
IsAtomPlace g k s ts = (a : GroundAtom) × (slice_get g.atoms k ≡ Some a) × (a.sym ≡ s) × (map (term_at (ground_terms g)) a.args ≡ ts)

-- the ground equation at the place is this one
abbrev pub IsEquationPlace : Ground → ℕ → GroundEquation → Term → Term → Type 0
IsEquationPlace g k e t u = (slice_get g.equations k ≡ Some e) × (term_at (ground_terms g) e.left ≡ t) × (term_at (ground_terms g) e.right ≡ u)

-- the two nodes that stand for a literal whose atom or equation is ground
abbrev pub Codes : Ground → Literal → ℕ → ℕ → Type 0
Codes g (Atom positive s ts) i j = (k : ℕ) × IsAtomPlace g k s ts × (i ≡ atom_place g positive k) × (j ≡ yes_place g)
Codes g (Eq true t u) i j = (k : ℕ) × (e : GroundEquation) × IsEquationPlace g k e t u × (i ≡ e.left) × (j ≡ e.right)
Codes g (Eq false t u) i j = (k : ℕ) × (e : GroundEquation) × IsEquationPlace g k e t u × (i ≡ disequal_place g k) × (j ≡ yes_place g)

abbrev pub CodesAll : Ground → List Literal → List Pair → Type 0
CodesAll g [] [] = Unit {0}
CodesAll g [] (p ∷ ps) = ⊥
CodesAll g (l ∷ ls) [] = ⊥
CodesAll g (l ∷ ls) (p ∷ ps) = Codes g l p.left p.right × CodesAll g ls ps

abbrev pub rule_of : List Pair → ℕ → ℕ → Rule
rule_of ps i j = record { premises = ps; conclusion = record { left = i; right = j } }

-- the rules of a graph: a literal of the disjunct holds; of two equations that are one another exchanged both or none fails; the
-- conclusion of a clause instance in the ground part holds where its premises do
pub data IsRule (d : Disjunct) (cs : List Clause) (g : Ground) : Rule → Type 0 where
  of_literal : (l : Literal) (i j : ℕ) → Contains d.literals l → Codes g l i j → IsRule d cs g (rule_of [] i j)
  of_exchange : (k m : ℕ) (e f : GroundEquation) → slice_get g.equations k ≡ Some e → slice_get g.equations m ≡ Some f → e.left ≡ f.right → e.right ≡ f.left → IsRule d cs g (rule_of [] (disequal_place g k) (disequal_place g m))
  of_instance : (c : Clause) (ts : List Term) (ps : List Pair) (i j : ℕ) → Contains cs c → length ts ≡ c.variables → IsGroundExpression d cs (trigger_at ts c.trigger) → CodesAll g (premises_at c ts) ps → Codes g (conclusion_at c ts) i j → IsRule d cs g (rule_of ps i j)

-- the graph has the nodes of the ground part, and exactly these rules
pub record IsGraph (d : Disjunct) (cs : List Clause) (g : Ground) (graph : Graph) : Type 0 where
  pub nodes : graph.nodes ≡ nodes_of g
  pub sound : (r : Rule) → Contains graph.rules r → IsRule d cs g r
  pub complete : (r : Rule) → IsRule d cs g r → Contains graph.rules r
