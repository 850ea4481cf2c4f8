-- Values of terms in the ground part of a disjunct.
use Rattle.std.specs.Prelude.{true, List, [], ◌∷◌}
use Rattle.mz_logic.specs.declared.sym.Sym.{Sym}
use Rattle.mz_logic.specs.Term.{Term, App, terms_of}
use Rattle.mz_logic.specs.declared.literal.Literal.TheVariants.{Eq}
use Rattle.mz_logic.specs.declared.disjunct.Disjunct.{Disjunct}
use Rattle.mz_ground.specs.declared.clause.Clause.{Clause}
use Rattle.mz_ground.specs.Layers.{IsGroundTerm}
use Rattle.mz_ground.specs.Facts.{Fact}

mutual
  -- the term has the value of the ground term v: it is ground and equal to v, or a term with its symbol and
  -- arguments of the same values is
  pub data IsValued (d : Disjunct) (cs : List Clause) : Term → Term → Type 0 where
    as_ground : (t v : Term) → IsGroundTerm d cs t → Fact d cs (Eq true t v) → IsValued d cs t v
    by_arguments : (s : Sym) (ts us : List Term) (v : Term) → AreValued d cs ts us → IsGroundTerm d cs (App s (terms_of us)) → Fact d cs (Eq true (App s (terms_of us)) v) → IsValued d cs (App s (terms_of ts)) v

  -- the lists are equally long, and each term has the value of the other
  pub data AreValued (d : Disjunct) (cs : List Clause) : List Term → List Term → Type 0 where
    no_values : AreValued d cs [] []
    and_values : (t v : Term) (ts vs : List Term) → IsValued d cs t v → AreValued d cs ts vs → AreValued d cs (t ∷ ts) (v ∷ vs)
