-- Sequents of statements.
use Rattle.std.specs.Prelude.{List, [], map}
use Rattle.mz_logic.specs.declared.sequent.Sequent.{Sequent}
use Rattle.mz_logic.specs.Formulas.{sequent}
use Rattle.mz_core.specs.Statement.{Statement}
use Rattle.mz_core.specs.Erasure.{erase}
use Rattle.mz_core.specs.declared.typed_sequent.TypedSequent.{TypedSequent}

abbrev pub typed_sequent : List Statement → Statement → TypedSequent
typed_sequent premises conclusion = record { premises = premises; conclusion = conclusion }

-- the sequent of the erasures
abbrev pub erased_sequent : TypedSequent → Sequent
erased_sequent s = sequent (map erase s.premises) (erase s.conclusion)
