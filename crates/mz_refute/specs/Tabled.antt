-- Rows and values that stand for the facts of a disjunct; `class` gives each ground term the number of its class.
use Rattle.std.specs.Prelude.{◌≡◌, ℕ, ◌⊎◌, true, false, List, [], ◌∷◌, map, Contains}
use Rattle.mz_logic.specs.declared.sym.Sym.{Sym}
use Rattle.mz_logic.specs.Term.{Term, Const, App, terms_of}
use Rattle.mz_logic.specs.declared.literal.Literal.TheVariants.{Atom, Eq}
use Rattle.mz_logic.specs.declared.disjunct.Disjunct.{Disjunct}
use Rattle.mz_ground.specs.declared.clause.Clause.{Clause}
use Rattle.mz_ground.specs.Layers.{IsGroundTerm}
use Rattle.mz_ground.specs.Facts.{Fact}
use Rattle.mz_match.specs.declared.row.Head.{Head}
use Rattle.mz_match.specs.declared.row.Head.TheVariants.{Constant, Functor, Holds, Fails, Disequal}
use Rattle.mz_match.specs.declared.row.Row.{Row}
use Rattle.mz_match.specs.Rows.{SomeOf}
use Rattle.mz_refute.specs.Counted.{IsCount}
use Rattle.mz_refute.specs.Work.{IsSigned, IsDisequal}

-- what classes of arguments and a class of a value say with the head
abbrev pub HeadMeans : Disjunct → List Clause → (Term → ℕ) → Head → List ℕ → ℕ → Type 0
HeadMeans d cs class (Constant n) args value = (args ≡ []) × IsGroundTerm d cs (Const n) × (class (Const n) ≡ value)
HeadMeans d cs class (Functor s) args value = (us : List Term) × IsGroundTerm d cs (App s (terms_of us)) × (args ≡ map class us) × (class (App s (terms_of us)) ≡ value)
HeadMeans d cs class (Holds s) args value = (us : List Term) × Fact d cs (Atom true s us) × (args ≡ map class us)
HeadMeans d cs class (Fails s) args value = (us : List Term) × Fact d cs (Atom false s us) × (args ≡ map class us)
HeadMeans d cs class Disequal args value = (v : Term) × (w : Term) × Fact d cs (Eq false v w) × (args ≡ class v ∷ class w ∷ [])

-- what a row with the head says
abbrev pub RowMeans : Disjunct → List Clause → (Term → ℕ) → Head → Row → Type 0
RowMeans d cs class h r = HeadMeans d cs class h r.args.items r.value

-- a term that stands for the number, where it is the number of a class
abbrev pub StandsFor : Disjunct → List Clause → (Term → ℕ) → ℕ → Term → Type 0
StandsFor d cs class v t = IsGroundTerm d cs t × ((u : Term) → IsGroundTerm d cs u → class u ≡ v → class t ≡ v)

pub record IsTabled (d : Disjunct) (cs : List Clause) (class : Term → ℕ) (rows : Head → List Row) (values : List ℕ) : Type 0 where
  -- the classes are those of equal terms
  pub one : (t u : Term) → IsGroundTerm d cs t → IsGroundTerm d cs u → class t ≡ class u → Fact d cs (Eq true t u)
  pub same : (t u : Term) → Fact d cs (Eq true t u) → class t ≡ class u
  -- each row says something true
  pub means : (h : Head) (r : Row) → Contains (rows h) r → RowMeans d cs class h r
  -- each ground term, each fact has its row
  pub constants : (n : ℕ) → IsGroundTerm d cs (Const n) → SomeOf (λ r. (r.args.items ≡ []) × (r.value ≡ class (Const n))) (rows (Constant n))
  pub functors : (s : Sym) (us : List Term) → IsGroundTerm d cs (App s (terms_of us)) → SomeOf (λ r. (r.args.items ≡ map class us) × (r.value ≡ class (App s (terms_of us)))) (rows (Functor s))
  pub holds : (s : Sym) (us : List Term) → Fact d cs (Atom true s us) → SomeOf (λ r. r.args.items ≡ map class us) (rows (Holds s))
  pub fails : (s : Sym) (us : List Term) → Fact d cs (Atom false s us) → SomeOf (λ r. r.args.items ≡ map class us) (rows (Fails s))
  pub differ : (v w : Term) → Fact d cs (Eq false v w) → SomeOf (λ r. r.args.items ≡ class v ∷ class w ∷ []) (rows Disequal) ⊎ SomeOf (λ r. r.args.items ≡ class w ∷ class v ∷ []) (rows Disequal)
  -- the values are the classes of the ground terms
  pub value : (t : Term) → IsGroundTerm d cs t → SomeOf (λ v. v ≡ class t) values
  pub term : (v : ℕ) → Contains values v → (t : Term) × IsGroundTerm d cs t × (class t ≡ v)
  pub pick : (v : ℕ) → (t : Term) × StandsFor d cs class v t

-- the counts are those of the facts and of the ground terms
pub record IsCounted (d : Disjunct) (cs : List Clause) (count : Head → ℕ) (total : ℕ) : Type 0 where
  pub holds : (s : Sym) → IsCount (IsSigned d cs true s) (count (Holds s))
  pub fails : (s : Sym) → IsCount (IsSigned d cs false s) (count (Fails s))
  pub differ : IsCount (IsDisequal d cs) (count Disequal)
  pub terms : IsCount (IsGroundTerm d cs) total
