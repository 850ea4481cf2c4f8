-- The literals that a universal forces in a disjunct: all but one of them are refuted at some ground terms.
use Rattle.std.specs.Prelude.{◌≡◌, Bool, true, false, not, List, [], ◌∷◌}
use Rattle.std.specs.declared.cmp.Ordering.TheVariants.{Less}
use Rattle.mz_logic.specs.declared.sym.Sym.{Sym}
use Rattle.mz_logic.specs.Term.{Term}
use Rattle.mz_logic.specs.Order.{term_cmp}
use Rattle.mz_logic.specs.Formula as formula
use Rattle.mz_logic.specs.Formula.{Formula, Not, And, All}
use Rattle.mz_logic.specs.Substitution.{body_at}
use Rattle.mz_logic.specs.declared.literal.Literal.{Literal}
use Rattle.mz_logic.specs.declared.literal.Literal.TheVariants.{Atom, Eq}
use Rattle.mz_logic.specs.declared.disjunct.Disjunct.{Disjunct}
use Rattle.mz_ground.specs.declared.clause.Clause.{Clause}
use Rattle.mz_ground.specs.Layers.{IsGroundTerm}
use Rattle.mz_ground.specs.Facts.{Fact}
use Rattle.mz_refute.specs.Valued.{IsValued}
use Rattle.mz_refute.specs.Refuted.{IsRefuted}

-- the term is ground, and none that is equal to it comes before it in the order of terms
pub record IsLeast (d : Disjunct) (cs : List Clause) (v : Term) : Type 0 where
  pub ground : IsGroundTerm d cs v
  pub first : (w : Term) → Fact d cs (Eq true v w) → term_cmp w v ≡ Less → ⊥

-- v is the least term of the class that is the value of t
pub record HasLeast (d : Disjunct) (cs : List Clause) (t v : Term) : Type 0 where
  pub valued : IsValued d cs t v
  pub least : IsLeast d cs v

-- the lists are equally long, and each term of the second is the least for that of the first
pub data HaveLeast (d : Disjunct) (cs : List Clause) : List Term → List Term → Type 0 where
  no_terms : HaveLeast d cs [] []
  and_terms : (t v : Term) (ts vs : List Term) → HasLeast d cs t v → HaveLeast d cs ts vs → HaveLeast d cs (t ∷ ts) (v ∷ vs)

-- `IsForced d cs true f l`: the formula f is refuted but for the literal l; `IsForced d cs false f l`: its negation is
pub data IsForced (d : Disjunct) (cs : List Clause) : Bool → Formula → Literal → Type 0 where
  -- an atom or its negation that isn't refuted, where all arguments have values: itself, at the least terms of these
  atom : (positive : Bool) (s : Sym) (ts vs : List Term) → HaveLeast d cs ts vs → (IsRefuted d cs positive (formula.Atom s ts) → ⊥) → IsForced d cs positive (formula.Atom s ts) (Atom positive s vs)
  -- an equation or its negation likewise
  equation : (positive : Bool) (t u v w : Term) → HasLeast d cs t v → HasLeast d cs u w → (IsRefuted d cs positive (formula.Eq t u) → ⊥) → IsForced d cs positive (formula.Eq t u) (Eq positive v w)
  -- a negation, where what it negates is so with the other sign: so double negations don't count
  negation : (positive : Bool) (f : Formula) (l : Literal) → IsForced d cs (not positive) f l → IsForced d cs positive (Not f) l
  -- a conjunction, where a part is
  first : (f g : Formula) (l : Literal) → IsForced d cs true f l → IsForced d cs true (And f g) l
  second : (f g : Formula) (l : Literal) → IsForced d cs true g l → IsForced d cs true (And f g) l
  -- a negated conjunction, where the negation of one part is refuted and that of the other is refuted but for the literal
  left : (f g : Formula) (l : Literal) → IsForced d cs false f l → IsRefuted d cs false g → IsForced d cs false (And f g) l
  right : (f g : Formula) (l : Literal) → IsForced d cs false g l → IsRefuted d cs false f → IsForced d cs false (And f g) l
  -- a universal, where its body is at some ground term; nothing else
  at_term : (b : Formula) (t : Term) (l : Literal) → IsGroundTerm d cs t → IsForced d cs true (body_at b t) l → IsForced d cs true (All b) l
