-- The facts of a disjunct under clauses: the least set of literals that the rules below close.
use Rattle.std.specs.Prelude.{◌≡◌, Bool, true, false, List, [], ◌∷◌, length, Contains, All}
use Rattle.mz_logic.specs.declared.sym.Sym.{Sym}
use Rattle.mz_logic.specs.Term.{Term, App, terms_of}
use Rattle.mz_logic.specs.declared.literal.Literal.{Literal}
use Rattle.mz_logic.specs.declared.literal.Literal.TheVariants.{Atom, Eq}
use Rattle.mz_logic.specs.declared.disjunct.Disjunct.{Disjunct}
use Rattle.mz_ground.specs.Instance.{trigger_at, premises_at, conclusion_at}
use Rattle.mz_ground.specs.Layers.{IsGroundExpression, IsGroundTerm, IsGroundAtom, IsGroundLiteral}
use Rattle.mz_ground.specs.declared.clause.Clause.{Clause}

mutual
  -- a literal is a fact
  pub data Fact (d : Disjunct) (cs : List Clause) : Literal → Type 0 where
    -- a literal of the disjunct
    given : (l : Literal) → Contains d.literals l → IsGroundLiteral d cs l → Fact d cs l
    -- equality is an equivalence on ground terms
    reflexive : (t : Term) → IsGroundTerm d cs t → Fact d cs (Eq true t t)
    symmetric : (t u : Term) → Fact d cs (Eq true t u) → Fact d cs (Eq true u t)
    transitive : (t u v : Term) → Fact d cs (Eq true t u) → Fact d cs (Eq true u v) → Fact d cs (Eq true t v)
    -- ground terms with one symbol and equal arguments are equal
    congruent : (s : Sym) (ts us : List Term) → IsGroundTerm d cs (App s (terms_of ts)) → IsGroundTerm d cs (App s (terms_of us)) → AreEqual d cs ts us → Fact d cs (Eq true (App s (terms_of ts)) (App s (terms_of us)))
    -- a ground atom has the sign of one with its symbol and equal arguments
    atom_congruence : (positive : Bool) (s : Sym) (ts us : List Term) → Fact d cs (Atom positive s ts) → IsGroundAtom d cs s us → AreEqual d cs ts us → Fact d cs (Atom positive s us)
    -- the sides of a disequation may be exchanged
    reversed : (t u : Term) → Fact d cs (Eq false t u) → Fact d cs (Eq false u t)
    -- the conclusion of an instance whose trigger, premises and conclusion are ground, and whose premises are facts
    fired : (c : Clause) (ts : List Term) → Contains cs c → length ts ≡ c.variables → IsGroundExpression d cs (trigger_at ts c.trigger) → All (IsGroundLiteral d cs) (premises_at c ts) → IsGroundLiteral d cs (conclusion_at c ts) → AreFacts d cs (premises_at c ts) → Fact d cs (conclusion_at c ts)

  -- the lists are equally long, and their terms are equal one by one
  pub data AreEqual (d : Disjunct) (cs : List Clause) : List Term → List Term → Type 0 where
    no_terms : AreEqual d cs [] []
    and_terms : (t u : Term) (ts us : List Term) → Fact d cs (Eq true t u) → AreEqual d cs ts us → AreEqual d cs (t ∷ ts) (u ∷ us)

  -- each literal is a fact
  pub data AreFacts (d : Disjunct) (cs : List Clause) : List Literal → Type 0 where
    no_literals : AreFacts d cs []
    and_literals : (l : Literal) (ls : List Literal) → Fact d cs l → AreFacts d cs ls → AreFacts d cs (l ∷ ls)

-- an atom or an equation has both signs
pub data IsContradictory (d : Disjunct) (cs : List Clause) : Type 0 where
  on_atom : (s : Sym) (ts : List Term) → Fact d cs (Atom true s ts) → Fact d cs (Atom false s ts) → IsContradictory d cs
  on_equation : (t u : Term) → Fact d cs (Eq true t u) → Fact d cs (Eq false t u) → IsContradictory d cs
