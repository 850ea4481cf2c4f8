-- Lists of terms that are derivably equal.
use Rattle.std.specs.Prelude.{List, [], ◌∷◌}
use Rattle.mz_logic.specs.Term.{Term}
use Rattle.mz_logic.specs.Formula.{Formula, Eq}
use Rattle.mz_logic.specs.Derives.{Derives}

-- the lists are equally long, and their terms are derivably equal one by one
abbrev pub AreEqual : List Formula → List Formula → List Term → List Term → Type 0
AreEqual axioms premises [] [] = Unit {0}
AreEqual axioms premises [] (u ∷ us) = ⊥
AreEqual axioms premises (t ∷ ts) [] = ⊥
AreEqual axioms premises (t ∷ ts) (u ∷ us) = Derives axioms premises (Eq t u) × AreEqual axioms premises ts us
