-- Statements. The type of a `For` stands outside the quantifier, its body under it.
use Rattle.std.specs.Prelude.{List}
use Rattle.mz_logic.specs.declared.sym.Sym.{Sym}
use Rattle.mz_logic.specs.Term.{Term}
use Rattle.mz_core.specs.declared.soft_type.SoftType.{SoftType}

pub data Statement : Type 0 where
  Truth : Statement
  Eq : Term → Term → Statement
  Atom : Sym → List Term → Statement
  Not : Statement → Statement
  And : Statement → Statement → Statement
  For : SoftType → Statement → Statement
