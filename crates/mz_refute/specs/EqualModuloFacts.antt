-- Universals that are the same up to terms of one value.
use Rattle.std.specs.Prelude.{◌≡◌, ℕ, true, List, [], ◌∷◌}
use Rattle.mz_logic.specs.declared.sym.Sym.{Sym}
use Rattle.mz_logic.specs.Term.{Term, Bound, App, terms_of}
use Rattle.mz_logic.specs.Indices.{closed}
use Rattle.mz_logic.specs.Formula.{Formula, Truth, Eq, Atom, Not, And, All}
use Rattle.mz_logic.specs.Negation.{negated}
use Rattle.mz_logic.specs.declared.disjunct.Disjunct.{Disjunct}
use Rattle.mz_ground.specs.declared.clause.Clause.{Clause}
use Rattle.mz_refute.specs.Valued.{IsValued}

-- the formula without double negations, at every depth
abbrev pub plain : Formula → Formula
plain Truth = Truth
plain (Eq t u) = Eq t u
plain (Atom s ts) = Atom s ts
plain (Not f) = negated (plain f)
plain (And f g) = And (plain f) (plain g)
plain (All f) = All (plain f)

mutual
  -- the terms are without an index and equal as written, or have one value; or they are the same index; or they
  -- have one symbol and congruent arguments
  pub data EqualModuloFacts (d : Disjunct) (cs : List Clause) : Term → Term → Type 0 where
    as_written : (t : Term) → closed t ≡ true → EqualModuloFacts d cs t t
    in_value : (t u v : Term) → IsValued d cs t v → IsValued d cs u v → EqualModuloFacts d cs t u
    one_index : (index : ℕ) → EqualModuloFacts d cs (Bound index) (Bound index)
    one_symbol : (s : Sym) (ts us : List Term) → AllEqualModuloFacts d cs ts us → EqualModuloFacts d cs (App s (terms_of ts)) (App s (terms_of us))

  pub data AllEqualModuloFacts (d : Disjunct) (cs : List Clause) : List Term → List Term → Type 0 where
    no_terms : AllEqualModuloFacts d cs [] []
    and_terms : (t u : Term) (ts us : List Term) → EqualModuloFacts d cs t u → AllEqualModuloFacts d cs ts us → AllEqualModuloFacts d cs (t ∷ ts) (u ∷ us)

-- the formulas have one tree, and congruent terms at each place of it
pub data FormulasEqualModuloFacts (d : Disjunct) (cs : List Clause) : Formula → Formula → Type 0 where
  truths : FormulasEqualModuloFacts d cs Truth Truth
  equations : (t u v w : Term) → EqualModuloFacts d cs t v → EqualModuloFacts d cs u w → FormulasEqualModuloFacts d cs (Eq t u) (Eq v w)
  atoms : (s : Sym) (ts us : List Term) → AllEqualModuloFacts d cs ts us → FormulasEqualModuloFacts d cs (Atom s ts) (Atom s us)
  negations : (f g : Formula) → FormulasEqualModuloFacts d cs f g → FormulasEqualModuloFacts d cs (Not f) (Not g)
  conjunctions : (f g h k : Formula) → FormulasEqualModuloFacts d cs f h → FormulasEqualModuloFacts d cs g k → FormulasEqualModuloFacts d cs (And f g) (And h k)
  universals : (f g : Formula) → FormulasEqualModuloFacts d cs f g → FormulasEqualModuloFacts d cs (All f) (All g)
