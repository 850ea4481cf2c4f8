-- The signature of a node: its head and the classes of its arguments, as a list of numbers.
use Rattle.std.specs.Prelude.{ℕ, Bool, List, [], ◌∷◌, ◌++◌, map, Option, nat_eq}
use Rattle.std.specs.Map.{lookup}
use lib.Pointwise.{pointwise}
use Rattle.mz_logic.specs.declared.sym.Sym.{Sym}
use Rattle.mz_logic.specs.Sym.{kind_number}
use Rattle.mz_ground.specs.declared.ground_equation.GroundEquation.{GroundEquation}
use Rattle.mz_congruence.specs.declared.graph.Head.{Head}
use Rattle.mz_congruence.specs.declared.graph.Head.TheVariants.{Constant, Function, Positive, Negative, Disequal, Yes}
use Rattle.mz_congruence.specs.declared.graph.Node.{Node}
use Rattle.mz_congruence.specs.declared.signatures.Signatures.{Signatures}

abbrev pub sym_code : ℕ → Sym → List ℕ
sym_code tag s = tag ∷ s.article ∷ kind_number s.kind ∷ s.number ∷ []

abbrev pub number_code : ℕ → ℕ → List ℕ
number_code tag n = tag ∷ n ∷ []

abbrev pub equation_code : ℕ → GroundEquation → List ℕ
equation_code tag e = tag ∷ e.left ∷ e.right ∷ []

abbrev pub head_code : Head → List ℕ
head_code (Constant n) = number_code 0 n
head_code (Function s) = sym_code 1 s
head_code (Positive s) = sym_code 2 s
head_code (Negative s) = sym_code 3 s
head_code (Disequal e) = equation_code 4 e
head_code Yes = number_code 5 0

-- the head, and the arguments by a function that gives their classes
abbrev pub signature : (ℕ → ℕ) → Node → List ℕ
signature r a = head_code a.head ++ map r a.args

-- the two lists are one
abbrev pub is_list : List ℕ → List ℕ → Bool
is_list s t = pointwise nat_eq s t

-- the place that a table gives a signature
abbrev pub place_of : Signatures → List ℕ → Option ℕ
place_of t s = lookup (λ k. is_list s k.items) t.places.entries
