-- What may be used in a context where constants below a number may not: each of its constants is below the next one and none
-- is below that number, and it has no loose index.
use Rattle.std.specs.Prelude.{ℕ, Bool, ◌&&◌, nat_le, nat_lt}
use Rattle.mz_logic.specs.Term.{Term}
use Rattle.mz_core.specs.Statement.{Statement}
use Rattle.mz_core.specs.declared.adjective.Adjective.{Adjective}
use Rattle.mz_core.specs.declared.soft_type.SoftType.{SoftType}
use Rattle.mz_context.specs.Context.{next}
use Rattle.mz_context.specs.declared.context.Context.{Context}
use Rattle.mz_choice_laws.specs.Known.{term_known, adjective_known, type_known, statement_known}

-- the constant with the number may be used, and it is below the next one
abbrev pub is_usable : ℕ → Context → ℕ → Bool
is_usable least c n = nat_le least n && nat_lt n (next c)

abbrev pub term_usable : ℕ → Context → Term → Bool
term_usable least c t = term_known (is_usable least c) 0 t

abbrev pub adjective_usable : ℕ → Context → Adjective → Bool
adjective_usable least c a = adjective_known (is_usable least c) 0 a

abbrev pub type_usable : ℕ → Context → SoftType → Bool
type_usable least c ty = type_known (is_usable least c) 0 ty

abbrev pub statement_usable : ℕ → Context → Statement → Bool
statement_usable least c s = statement_known (is_usable least c) 0 s
