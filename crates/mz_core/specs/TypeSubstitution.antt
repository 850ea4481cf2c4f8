-- Types, literals and statements with terms for their indices.
use Rattle.std.specs.Prelude.{ℕ, ◌+◌, [], ◌∷◌, map}
use Rattle.mz_logic.specs.Term.{Term}
use Rattle.mz_logic.specs.declared.literal.Literal.{Literal}
use Rattle.mz_logic.specs.declared.literal.Literal.TheVariants as literal
use Rattle.mz_logic.specs.Substitution.{substitute, value_at}
use Rattle.mz_core.specs.Statement.{Statement, Truth, Eq, Atom, Not, And, For}
use Rattle.mz_core.specs.declared.radix.Radix.{Radix}
use Rattle.mz_core.specs.declared.adjective.Adjective.{Adjective}
use Rattle.mz_core.specs.declared.soft_type.SoftType.{SoftType}

abbrev pub substitute_adjective : ℕ → (ℕ → Term) → Adjective → Adjective
substitute_adjective depth values a = record { positive = a.positive; sym = a.sym; args = map (substitute depth values) a.args }

abbrev pub substitute_radix : ℕ → (ℕ → Term) → Radix → Radix
substitute_radix depth values r = record { sym = r.sym; args = map (substitute depth values) r.args }

abbrev pub substitute_type : ℕ → (ℕ → Term) → SoftType → SoftType
substitute_type depth values ty = record { adjectives = map (substitute_adjective depth values) ty.adjectives; radix = substitute_radix depth values ty.radix }

abbrev pub substitute_literal : ℕ → (ℕ → Term) → Literal → Literal
substitute_literal depth values (literal.Atom positive s ts) = literal.Atom positive s (map (substitute depth values) ts)
substitute_literal depth values (literal.Eq positive t u) = literal.Eq positive (substitute depth values t) (substitute depth values u)

-- a statement under `depth` binders; the type of a quantifier stands outside it
abbrev pub substitute_statement : ℕ → (ℕ → Term) → Statement → Statement
substitute_statement depth values Truth = Truth
substitute_statement depth values (Eq t u) = Eq (substitute depth values t) (substitute depth values u)
substitute_statement depth values (Atom s ts) = Atom s (map (substitute depth values) ts)
substitute_statement depth values (Not s) = Not (substitute_statement depth values s)
substitute_statement depth values (And s t) = And (substitute_statement depth values s) (substitute_statement depth values t)
substitute_statement depth values (For ty s) = For (substitute_type depth values ty) (substitute_statement (depth + 1) values s)

-- the body of a `For` at a term
abbrev pub statement_at : Statement → Term → Statement
statement_at s t = substitute_statement 0 (value_at (t ∷ [])) s
