-- A constant of a type or a statement made an index: the way back from the body of a quantifier at the
-- constant.
use Rattle.std.specs.Prelude.{ℕ, ◌+◌, map}
use Rattle.mz_logic.specs.Abstraction.{term_over}
use Rattle.mz_core.specs.Statement.{Statement, Truth, Eq, Atom, Not, And, For}
use Rattle.mz_core.specs.declared.radix.Radix.{Radix}
use Rattle.mz_core.specs.declared.adjective.Adjective.{Adjective}
use Rattle.mz_core.specs.declared.soft_type.SoftType.{SoftType}

abbrev pub adjective_over : ℕ → ℕ → Adjective → Adjective
adjective_over c depth a = record { positive = a.positive; sym = a.sym; args = map (term_over c depth) a.args }

abbrev pub radix_over : ℕ → ℕ → Radix → Radix
radix_over c depth r = record { sym = r.sym; args = map (term_over c depth) r.args }

abbrev pub type_over : ℕ → ℕ → SoftType → SoftType
type_over c depth ty = record { adjectives = map (adjective_over c depth) ty.adjectives; radix = radix_over c depth ty.radix }

-- the statement below one more binder, outside the innermost `depth`, whose index stands for the constant c
abbrev pub statement_over : ℕ → ℕ → Statement → Statement
statement_over c depth Truth = Truth
statement_over c depth (Eq t u) = Eq (term_over c depth t) (term_over c depth u)
statement_over c depth (Atom s ts) = Atom s (map (term_over c depth) ts)
statement_over c depth (Not s) = Not (statement_over c depth s)
statement_over c depth (And s t) = And (statement_over c depth s) (statement_over c depth t)
statement_over c depth (For ty s) = For (type_over c depth ty) (statement_over c (depth + 1) s)
