-- How large terms, formulas and types are: their nodes and their depth, each counted up to one above its limit.
use Rattle.std.specs.Prelude.{ℕ, suc, ◌+◌, Bool, ◌&&◌, nat_le, min, max, List, [], ◌∷◌}
use Rattle.mz_logic.specs.Term.{Term, Terms, terms_of}
use Rattle.mz_logic.specs.Formula.{Formula, Truth, Eq, Atom, Not, And, All}
use Rattle.mz_ground.specs.Instance.{term_nodes, args_nodes}
use Rattle.mz_core.specs.Statement.{Statement}
use Rattle.mz_core.specs.declared.adjective.Adjective.{Adjective}
use Rattle.mz_core.specs.declared.soft_type.SoftType.{SoftType}
use Rattle.mz_sizes.specs.Sizes.{term_depth, args_depth, adjective_nodes, adjective_depth, adjectives_nodes, adjectives_depth, type_nodes, type_depth, statement_nodes, statement_depth, most_nodes, most_depth, keeps}
use Rattle.mz_instance_sizes.specs.declared.size.Size.{Size}

-- one for a formula and each formula and term in it; a leaf has the depth 1
abbrev pub formula_nodes : Formula → ℕ
formula_nodes Truth = 1
formula_nodes (Eq t u) = suc (term_nodes t + term_nodes u)
formula_nodes (Atom s ts) = suc (args_nodes (terms_of ts))
formula_nodes (Not f) = suc (formula_nodes f)
formula_nodes (And f g) = suc (formula_nodes f + formula_nodes g)
formula_nodes (All f) = suc (formula_nodes f)

abbrev pub formula_depth : Formula → ℕ
formula_depth Truth = 1
formula_depth (Eq t u) = suc (max (term_depth t) (term_depth u))
formula_depth (Atom s ts) = suc (args_depth (terms_of ts))
formula_depth (Not f) = suc (formula_depth f)
formula_depth (And f g) = suc (max (formula_depth f) (formula_depth g))
formula_depth (All f) = suc (formula_depth f)

-- within both limits
abbrev pub formula_keeps : Formula → Bool
formula_keeps f = keeps (formula_nodes f) (formula_depth f)

-- so many nodes, and such a depth
abbrev pub capped : ℕ → ℕ → Size
capped n d = record { nodes = min n 65537; depth = min d 513 }

abbrev pub is_kept : Size → Bool
is_kept x = nat_le x.nodes most_nodes && nat_le x.depth most_depth

abbrev pub nothing : Size
nothing = record { nodes = 0; depth = 0 }

abbrev pub leaf : Size
leaf = record { nodes = 1; depth = 1 }

-- what has this alone below it, and the two beside each other
abbrev pub above : Size → Size
above x = capped (suc x.nodes) (suc x.depth)

abbrev pub beside : Size → Size → Size
beside x y = capped (x.nodes + y.nodes) (max x.depth y.depth)

-- all of them beside each other
abbrev pub all_beside : List Size → Size
all_beside [] = nothing
all_beside (x ∷ xs) = beside x (all_beside xs)

abbrev pub term_size : Term → Size
term_size t = capped (term_nodes t) (term_depth t)

abbrev pub args_size : Terms → Size
args_size ts = capped (args_nodes ts) (args_depth ts)

abbrev pub formula_size : Formula → Size
formula_size f = capped (formula_nodes f) (formula_depth f)

abbrev pub adjective_size : Adjective → Size
adjective_size a = capped (adjective_nodes a) (adjective_depth a)

abbrev pub adjectives_size : List Adjective → Size
adjectives_size xs = capped (adjectives_nodes xs) (adjectives_depth xs)

abbrev pub type_size : SoftType → Size
type_size ty = capped (type_nodes ty) (type_depth ty)

abbrev pub statement_size : Statement → Size
statement_size s = capped (statement_nodes s) (statement_depth s)
