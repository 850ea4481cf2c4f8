-- Types and statements under more binders.
use Rattle.std.specs.Prelude.{ℕ, ◌+◌, map}
use Rattle.mz_logic.specs.Substitution.{shift}
use Rattle.mz_core.specs.Statement.{Statement, Truth, Eq, Atom, Not, And, For}
use Rattle.mz_core.specs.declared.radix.Radix.{Radix}
use Rattle.mz_core.specs.declared.adjective.Adjective.{Adjective}
use Rattle.mz_core.specs.declared.soft_type.SoftType.{SoftType}

abbrev pub shift_adjective : ℕ → ℕ → Adjective → Adjective
shift_adjective from by a = record { positive = a.positive; sym = a.sym; args = map (shift from by) a.args }

abbrev pub shift_radix : ℕ → ℕ → Radix → Radix
shift_radix from by r = record { sym = r.sym; args = map (shift from by) r.args }

abbrev pub shift_type : ℕ → ℕ → SoftType → SoftType
shift_type from by ty = record { adjectives = map (shift_adjective from by) ty.adjectives; radix = shift_radix from by ty.radix }

abbrev pub shift_statement : ℕ → ℕ → Statement → Statement
shift_statement from by Truth = Truth
shift_statement from by (Eq t u) = Eq (shift from by t) (shift from by u)
shift_statement from by (Atom s ts) = Atom s (map (shift from by) ts)
shift_statement from by (Not s) = Not (shift_statement from by s)
shift_statement from by (And s t) = And (shift_statement from by s) (shift_statement from by t)
shift_statement from by (For ty s) = For (shift_type from by ty) (shift_statement (from + 1) by s)
