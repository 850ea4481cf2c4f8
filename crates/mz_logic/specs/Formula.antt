-- Formulas. The body of an `All` is under one more binder.
use Rattle.std.specs.Prelude.{List}
use Rattle.mz_logic.specs.declared.sym.Sym.{Sym}
use Rattle.mz_logic.specs.Term.{Term}

pub data Formula : Type 0 where
  Truth : Formula
  Eq : Term → Term → Formula
  Atom : Sym → List Term → Formula
  Not : Formula → Formula
  And : Formula → Formula → Formula
  All : Formula → Formula
