-- The nodes that stand for a ground part, and what each says.
use Rattle.std.specs.Prelude.{ℕ, ◌+◌, Bool, true, false, List, [], ◌∷◌, ◌++◌, map, length, slice_get, Option, Some, None}
use Rattle.mz_logic.specs.declared.sym.Sym.{Sym}
use Rattle.mz_logic.specs.Term as term
use Rattle.mz_logic.specs.Term.{Term, terms_of}
use Rattle.mz_logic.specs.declared.literal.Literal.{Literal}
use Rattle.mz_logic.specs.declared.literal.Literal.TheVariants.{Atom, Eq}
use Rattle.mz_ground.specs.Ground.{term_at, ground_terms}
use Rattle.mz_ground.specs.declared.ground_part.Ground.{Ground}
use Rattle.mz_ground.specs.declared.ground_term.GroundTerm.{GroundTerm}
use Rattle.mz_ground.specs.declared.ground_term.GroundTerm.TheVariants.{Const, App}
use Rattle.mz_ground.specs.declared.ground_atom.GroundAtom.{GroundAtom}
use Rattle.mz_ground.specs.declared.ground_equation.GroundEquation.{GroundEquation}
use Rattle.mz_congruence.specs.declared.graph.Head.{Head}
use Rattle.mz_congruence.specs.declared.graph.Head.TheVariants.{Constant, Function, Positive, Negative, Disequal, Yes}
use Rattle.mz_congruence.specs.declared.graph.Node.{Node}

abbrev pub term_node : GroundTerm → Node
term_node (Const number) = record { head = Constant number; args = [] }
term_node (App sym args) = record { head = Function sym; args = args }

abbrev pub atom_head : Bool → Sym → Head
atom_head true sym = Positive sym
atom_head false sym = Negative sym

abbrev pub atom_node : Bool → GroundAtom → Node
atom_node positive a = record { head = atom_head positive a.sym; args = a.args }

abbrev pub disequal_node : GroundEquation → Node
disequal_node e = record { head = Disequal e; args = [] }

abbrev pub yes_node : Node
yes_node = record { head = Yes; args = [] }

abbrev pub nodes_to_positive : Ground → List Node
nodes_to_positive g = map term_node g.terms ++ map (atom_node true) g.atoms

abbrev pub nodes_to_negative : Ground → List Node
nodes_to_negative g = nodes_to_positive g ++ map (atom_node false) g.atoms

abbrev pub nodes_to_disequal : Ground → List Node
nodes_to_disequal g = nodes_to_negative g ++ map disequal_node g.equations

-- one for each ground term, each ground atom with either sign and each ground equation, and one for truth
abbrev pub nodes_of : Ground → List Node
nodes_of g = nodes_to_disequal g ++ yes_node ∷ []

-- where the node of the ground atom k with a sign stands
abbrev pub atom_place : Ground → Bool → ℕ → ℕ
atom_place g true k = length g.terms + k
atom_place g false k = length g.terms + length g.atoms + k

-- where the node of the ground equation k stands
abbrev pub disequal_place : Ground → ℕ → ℕ
disequal_place g k = length g.terms + length g.atoms + length g.atoms + k

abbrev pub yes_place : Ground → ℕ
yes_place g = length g.terms + length g.atoms + length g.atoms + length g.equations

-- what a node says: it is a term, or that a literal is a fact, or nothing
pub data Key : Type 0 where
  OfTerm : Term → Key
  OfLiteral : Literal → Key
  OfTruth : Key

-- what the node with this head and these arguments says, where these are the ground terms
abbrev pub key : List Term → Head → List ℕ → Key
key ts (Constant number) args = OfTerm (term.Const number)
key ts (Function s) args = OfTerm (term.App s (terms_of (map (term_at ts) args)))
key ts (Positive s) args = OfLiteral (Atom true s (map (term_at ts) args))
key ts (Negative s) args = OfLiteral (Atom false s (map (term_at ts) args))
key ts (Disequal e) args = OfLiteral (Eq false (term_at ts e.left) (term_at ts e.right))
key ts Yes args = OfTruth

abbrev pub key_or_truth : List Term → Option Node → Key
key_or_truth ts None = OfTruth
key_or_truth ts (Some a) = key ts a.head a.args

-- what the node at a place says
abbrev pub key_at : Ground → ℕ → Key
key_at g i = key_or_truth (ground_terms g) (slice_get (nodes_of g) i)
