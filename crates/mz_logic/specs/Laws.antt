-- Laws of what is derivable.
use Rattle.std.specs.Prelude.{◌≡◌, ◌↔◌, ℕ, List, [], ◌∷◌, map, All, true}
use Rattle.std.specs.List.{list_all}
use Rattle.mz_logic.specs.declared.sym.Sym.{Sym}
use Rattle.mz_logic.specs.declared.letters.Letter.{Letter}
use Rattle.mz_logic.specs.Term.{Term, App, terms_of}
use Rattle.mz_logic.specs.Formula.{Formula, Eq, Atom}
use Rattle.mz_logic.specs.Formulas.{IsMember}
use Rattle.mz_logic.specs.Indices.{closed}
use Rattle.mz_logic.specs.Substitution.{substitute, value_at, body_at}
use Rattle.mz_logic.specs.Instance.{instance}
use Rattle.mz_logic.specs.ConstantTerm.{formula_with}
use Rattle.mz_logic.specs.Same.{IsSame, normal_form}
use Rattle.mz_logic.specs.Equality.{AreEqual}
use Rattle.mz_logic.specs.Derives.{Derives}

-- what derives from premises derives from others that have each of them
abbrev pub WeakeningLaw : Type 0
WeakeningLaw =
    (axioms premises others : List Formula) (f : Formula) →
    All (IsMember others) premises → Derives axioms premises f → Derives axioms others f

-- a formula that derives from the premises may be used as one of them
abbrev pub CutLaw : Type 0
CutLaw =
    (axioms premises : List Formula) (f g : Formula) →
    Derives axioms premises f → Derives axioms (f ∷ premises) g → Derives axioms premises g

-- axioms that derive each other axiom derive what the others do
abbrev pub AxiomsLaw : Type 0
AxiomsLaw =
    (axioms others premises : List Formula) (f : Formula) →
    ((a : Formula) → IsMember axioms a → Derives others [] a) →
    Derives axioms premises f → Derives others premises f

-- the instance by letters of what is derivable is derivable
abbrev pub InstanceLaw : Type 0
InstanceLaw =
    (axioms premises : List Formula) (f : Formula) (letters : List Letter) →
    Derives axioms premises f → Derives axioms (map (instance letters) premises) (instance letters f)

-- a closed term may stand for a constant throughout what is derivable
abbrev pub ConstantLaw : Type 0
ConstantLaw =
    (axioms premises : List Formula) (f : Formula) (c : ℕ) (t : Term) → closed t ≡ true →
    Derives axioms premises f → Derives axioms (map (formula_with c t) premises) (formula_with c t f)

-- formulas that are the same derive one from the other
abbrev pub SameLaw : Type 0
SameLaw =
    (axioms premises : List Formula) (f g : Formula) → IsSame f g →
    Derives axioms premises f → Derives axioms premises g

-- formulas are the same exactly where they have one normal form
abbrev pub NormalFormLaw : Type 0
NormalFormLaw = (f g : Formula) → IsSame f g ↔ (normal_form f ≡ normal_form g)

-- an equal term may stand for a term in a formula
abbrev pub FormulaCongruenceLaw : Type 0
FormulaCongruenceLaw =
    (axioms premises : List Formula) (t u : Term) (body : Formula) →
    closed t ≡ true → closed u ≡ true → Derives axioms premises (Eq t u) →
    Derives axioms premises (body_at body t) → Derives axioms premises (body_at body u)

-- a closed term is equal to it with an equal term in it
abbrev pub TermCongruenceLaw : Type 0
TermCongruenceLaw =
    (axioms premises : List Formula) (t u inside : Term) →
    closed t ≡ true → closed u ≡ true → closed (substitute 0 (value_at (t ∷ [])) inside) ≡ true →
    Derives axioms premises (Eq t u) →
    Derives axioms premises (Eq (substitute 0 (value_at (t ∷ [])) inside) (substitute 0 (value_at (u ∷ [])) inside))

-- applications of a symbol to closed arguments that are equal one by one are equal
abbrev pub ApplicationLaw : Type 0
ApplicationLaw =
    (axioms premises : List Formula) (s : Sym) (ts us : List Term) →
    list_all closed ts ≡ true → list_all closed us ≡ true → AreEqual axioms premises ts us →
    Derives axioms premises (Eq (App s (terms_of ts)) (App s (terms_of us)))

-- an atom derives from that with closed arguments that are equal one by one
abbrev pub AtomLaw : Type 0
AtomLaw =
    (axioms premises : List Formula) (s : Sym) (ts us : List Term) →
    list_all closed ts ≡ true → list_all closed us ≡ true → AreEqual axioms premises ts us →
    Derives axioms premises (Atom s ts) → Derives axioms premises (Atom s us)
