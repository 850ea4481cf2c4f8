-- Values that fit loci are of their types.
use Rattle.std.specs.Prelude.{List, [], ◌∷◌, Option, Contains}
use Rattle.mz_logic.specs.Term.{Term}
use Rattle.mz_logic.specs.Formula.{Formula}
use Rattle.mz_logic.specs.Derives.{Derives}
use Rattle.mz_core.specs.Guard.{guard}
use Rattle.mz_core.specs.declared.soft_type.SoftType.{SoftType}
use Rattle.mz_context.specs.declared.constants.Constant.{Constant}
use Rattle.mz_ground.specs.declared.clause.Clause.{Clause}
use Rattle.mz_fits.specs.Fits.{type_at, LociFit}
use Rattle.mz_fits.specs.Laws.{AreGranted}

-- the guard of each locus' type, at the values before it, derives at its value; the values before are given the innermost first
pub data LociHold (axioms premises : List Formula) : List Term → List SoftType → List Term → Type 0 where
  no_loci : (before : List Term) → LociHold axioms premises before [] []
  and_locus : (before : List Term) (ty : SoftType) (tys : List SoftType) (t : Term) (ts : List Term) →
      ((f : Formula) → Contains (guard (type_at before ty) t) f → Derives axioms premises f) → LociHold axioms premises (t ∷ before) tys ts → LociHold axioms premises before (ty ∷ tys) (t ∷ ts)

-- values that fit loci are of the types of the loci
abbrev pub LociLaw : Type 0
LociLaw =
    (axioms premises : List Formula) (cs : List Clause) (ks : List (Option Constant)) → AreGranted axioms premises cs ks →
    (before : List Term) (loci : List SoftType) (values : List Term) → LociFit cs ks before loci values → LociHold axioms premises before loci values
