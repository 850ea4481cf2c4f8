-- How large what is read may be: its nodes and its depth.
use Rattle.std.specs.Prelude.{ℕ, suc, ◌+◌, Bool, ◌&&◌, nat_le, max, List, [], ◌∷◌}
use Rattle.mz_logic.specs.Term.{Term, Terms, Bound, Const, App, none, more, terms_of}
use Rattle.mz_ground.specs.Instance.{term_nodes, args_nodes}
use Rattle.mz_core.specs.Statement.{Statement, Truth, Eq, Atom, Not, And, For}
use Rattle.mz_core.specs.declared.adjective.Adjective.{Adjective}
use Rattle.mz_core.specs.declared.soft_type.SoftType.{SoftType}

abbrev pub most_nodes : ℕ
most_nodes = 65536

abbrev pub most_depth : ℕ
most_depth = 512

-- one for an adjective, and for a type one for the radix and one for each adjective, with their arguments
abbrev pub adjective_nodes : Adjective → ℕ
adjective_nodes a = suc (args_nodes (terms_of a.args))

abbrev pub adjectives_nodes : List Adjective → ℕ
adjectives_nodes [] = 0
adjectives_nodes (a ∷ xs) = adjective_nodes a + adjectives_nodes xs

abbrev pub type_nodes : SoftType → ℕ
type_nodes ty = suc (args_nodes (terms_of ty.radix.args)) + adjectives_nodes ty.adjectives

-- one for a statement and each statement, type and term in it
abbrev pub statement_nodes : Statement → ℕ
statement_nodes Truth = 1
statement_nodes (Eq t u) = suc (term_nodes t + term_nodes u)
statement_nodes (Atom s ts) = suc (args_nodes (terms_of ts))
statement_nodes (Not s) = suc (statement_nodes s)
statement_nodes (And s t) = suc (statement_nodes s + statement_nodes t)
statement_nodes (For ty s) = suc (type_nodes ty + statement_nodes s)

-- a leaf has the depth 1
abbrev mutual
  pub term_depth : Term → ℕ
  term_depth (Bound index) = 1
  term_depth (Const number) = 1
  term_depth (App s ts) = suc (args_depth ts)

  pub args_depth : Terms → ℕ
  args_depth none = 0
  args_depth (more t ts) = max (term_depth t) (args_depth ts)

abbrev pub adjective_depth : Adjective → ℕ
adjective_depth a = suc (args_depth (terms_of a.args))

abbrev pub adjectives_depth : List Adjective → ℕ
adjectives_depth [] = 0
adjectives_depth (a ∷ xs) = max (adjective_depth a) (adjectives_depth xs)

abbrev pub type_depth : SoftType → ℕ
type_depth ty = max (suc (args_depth (terms_of ty.radix.args))) (adjectives_depth ty.adjectives)

abbrev pub statement_depth : Statement → ℕ
statement_depth Truth = 1
statement_depth (Eq t u) = suc (max (term_depth t) (term_depth u))
statement_depth (Atom s ts) = suc (args_depth (terms_of ts))
statement_depth (Not s) = suc (statement_depth s)
statement_depth (And s t) = suc (max (statement_depth s) (statement_depth t))
statement_depth (For ty s) = suc (max (type_depth ty) (statement_depth s))

-- within both limits
abbrev pub keeps : ℕ → ℕ → Bool
keeps nodes depth = nat_le nodes most_nodes && nat_le depth most_depth

abbrev pub term_keeps : Term → Bool
term_keeps t = keeps (term_nodes t) (term_depth t)

abbrev pub adjective_keeps : Adjective → Bool
adjective_keeps a = keeps (adjective_nodes a) (adjective_depth a)

abbrev pub type_keeps : SoftType → Bool
type_keeps ty = keeps (type_nodes ty) (type_depth ty)

abbrev pub statement_keeps : Statement → Bool
statement_keeps s = keeps (statement_nodes s) (statement_depth s)
