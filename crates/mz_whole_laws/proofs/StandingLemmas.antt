-- What stands is usable, and what is usable stands.
use Rattle.std.proofs.Common.{◌≡◌, true}
use Rattle.mz_logic.specs.Term.{Term}
use Rattle.mz_core.specs.Statement.{Statement}
use Rattle.mz_core.specs.declared.soft_type.SoftType.{SoftType}
use Rattle.mz_context.specs.Context.{next}
use Rattle.mz_context.specs.declared.context.Context.{Context}
use Rattle.mz_term_laws.specs.Usable.{term_usable, type_usable, statement_usable}
use Rattle.mz_term_laws.proofs.UsableProofs.{term_from-zero, type_from-zero, statement_from-zero, usable_term_law, usable_type_law, usable_statement_law, usable_back_law}
use Rattle.mz_block_laws.specs.Orders.{TermStands, TypeStands, Stands}

pub term_usable_in : (c : Context) (t : Term) → TermStands (next c) t → term_usable 0 c t ≡ true
term_usable_in c t w = (usable_back_law 0 c).0 t w.0 w.1 (term_from-zero t)

pub type_usable_in : (c : Context) (ty : SoftType) → TypeStands (next c) ty → type_usable 0 c ty ≡ true
type_usable_in c ty w = (usable_back_law 0 c).1 ty w.1 w.0 (type_from-zero ty)

pub statement_usable_in : (c : Context) (s : Statement) → Stands (next c) s → statement_usable 0 c s ≡ true
statement_usable_in c s w = (usable_back_law 0 c).2 s w.1 w.0 (statement_from-zero s)

pub term_stands : (c : Context) (t : Term) → term_usable 0 c t ≡ true → TermStands (next c) t
term_stands c t h = let u = usable_term_law 0 c t h in (u.0, u.1)

pub type_stands : (c : Context) (ty : SoftType) → type_usable 0 c ty ≡ true → TypeStands (next c) ty
type_stands c ty h = let u = usable_type_law 0 c ty h in (u.1, u.0)

pub statement_stands : (c : Context) (s : Statement) → statement_usable 0 c s ≡ true → Stands (next c) s
statement_stands c s h = let u = usable_statement_law 0 c s h in (u.1, u.0)
