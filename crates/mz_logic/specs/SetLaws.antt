-- Laws of what derives from properties of formulas.
use Rattle.std.specs.Prelude.{◌≡◌, ℕ, List, length, true, false}
use Rattle.std.specs.List.{list_all}
use Rattle.mz_logic.specs.declared.letters.Letter.{Letter}
use Rattle.mz_logic.specs.Term.{Term, Const}
use Rattle.mz_logic.specs.Formula as formula
use Rattle.mz_logic.specs.Formula.{Formula, Truth, Eq, Not, And}
use Rattle.mz_logic.specs.Indices.{closed}
use Rattle.mz_logic.specs.Constants.{occurs_in_formula}
use Rattle.mz_logic.specs.Substitution.{substitute_formula, value_at, body_at}
use Rattle.mz_logic.specs.Negation.{falsity}
use Rattle.mz_logic.specs.Connectives.{joined, implies, quantified}
use Rattle.mz_logic.specs.ConstantTerm.{formula_with}
use Rattle.mz_logic.specs.Instance.{instance}
use Rattle.mz_logic.specs.DerivesFrom.{DerivesFrom, AllDerive, IsNone, Adjoined, IsImage}

-- a premise derives, and an axiom
abbrev pub MemberLaw : (Formula → Type 0) → (Formula → Type 0) → Type 0
MemberLaw A P = ((f : Formula) → P f → DerivesFrom A P f) × ((f : Formula) → A f → DerivesFrom A P f)

-- larger sets derive more
abbrev pub LargerLaw : (Formula → Type 0) → (Formula → Type 0) → (Formula → Type 0) → (Formula → Type 0) → Type 0
LargerLaw A B P Q =
    (f : Formula) → ((k : Formula) → A k → B k) → ((k : Formula) → P k → Q k) →
    DerivesFrom A P f → DerivesFrom B Q f

-- what derives from formulas derives from what these derive from
abbrev pub CutSetLaw : (Formula → Type 0) → (Formula → Type 0) → (Formula → Type 0) → Type 0
CutSetLaw A P Q = (f : Formula) → ((k : Formula) → Q k → DerivesFrom A P k) → DerivesFrom A Q f → DerivesFrom A P f

-- axioms that derive each other axiom derive what these do
abbrev pub OtherAxiomsLaw : (Formula → Type 0) → (Formula → Type 0) → (Formula → Type 0) → Type 0
OtherAxiomsLaw A B P =
    (f : Formula) → ((k : Formula) → A k → DerivesFrom B IsNone k) → DerivesFrom A P f → DerivesFrom B P f

-- f implies g exactly where g derives with f among the premises
abbrev pub DeductionLaw : (Formula → Type 0) → (Formula → Type 0) → Type 0
DeductionLaw A P =
    (f g : Formula) →
    (DerivesFrom A (Adjoined P f) g → DerivesFrom A P (implies f g)) ×
    (DerivesFrom A P (implies f g) → DerivesFrom A (Adjoined P f) g)

-- a conjunction derives exactly where both parts do, and one of a list where all do
abbrev pub ConjunctionLaw : (Formula → Type 0) → (Formula → Type 0) → Type 0
ConjunctionLaw A P =
    ((f g : Formula) → DerivesFrom A P f → DerivesFrom A P g → DerivesFrom A P (And f g)) ×
    ((f g : Formula) → DerivesFrom A P (And f g) → DerivesFrom A P f) ×
    ((f g : Formula) → DerivesFrom A P (And f g) → DerivesFrom A P g) ×
    ((fs : List Formula) → AllDerive A P fs → DerivesFrom A P (joined fs)) ×
    ((fs : List Formula) → DerivesFrom A P (joined fs) → AllDerive A P fs)

-- what leads to falsity fails, anything follows from a formula and its negation, and what can't fail holds
abbrev pub NegationLaw : (Formula → Type 0) → (Formula → Type 0) → Type 0
NegationLaw A P =
    ((f : Formula) → DerivesFrom A (Adjoined P f) falsity → DerivesFrom A P (Not f)) ×
    ((f g : Formula) → DerivesFrom A P f → DerivesFrom A P (Not f) → DerivesFrom A P g) ×
    ((f : Formula) → DerivesFrom A (Adjoined P (Not f)) falsity → DerivesFrom A P f)

-- a universal at closed terms, for one index and for several
abbrev pub UniversalLaw : (Formula → Type 0) → (Formula → Type 0) → Type 0
UniversalLaw A P =
    ((b : Formula) (t : Term) → closed t ≡ true → DerivesFrom A P (formula.All b) → DerivesFrom A P (body_at b t)) ×
    ((ts : List Term) (f : Formula) → list_all closed ts ≡ true → DerivesFrom A P (quantified (length ts) f) → DerivesFrom A P (substitute_formula 0 (value_at ts) f))

-- a universal over a constant that occurs in no premise
abbrev pub GeneralizationLaw : (Formula → Type 0) → (Formula → Type 0) → Type 0
GeneralizationLaw A P =
    (b : Formula) (c : ℕ) → ((k : Formula) → P k → occurs_in_formula c k ≡ false) → occurs_in_formula c b ≡ false →
    DerivesFrom A P (body_at b (Const c)) → DerivesFrom A P (formula.All b)

-- an object of an existential is a constant that occurs in no premise and not in what is to derive
abbrev pub ExistentialLaw : (Formula → Type 0) → (Formula → Type 0) → Type 0
ExistentialLaw A P =
    (b g : Formula) (c : ℕ) →
    ((k : Formula) → P k → occurs_in_formula c k ≡ false) → occurs_in_formula c b ≡ false → occurs_in_formula c g ≡ false →
    DerivesFrom A P (Not (formula.All (Not b))) → DerivesFrom A (Adjoined P (body_at b (Const c))) g →
    DerivesFrom A P g

-- a closed term equals itself, and an equal term may stand for it in a formula
abbrev pub EquationLaw : (Formula → Type 0) → (Formula → Type 0) → Type 0
EquationLaw A P =
    ((t : Term) → closed t ≡ true → DerivesFrom A P (Eq t t)) ×
    ((t u : Term) (b : Formula) → closed t ≡ true → closed u ≡ true → DerivesFrom A P (Eq t u) → DerivesFrom A P (body_at b t) → DerivesFrom A P (body_at b u))

-- instances by letters of the premises derive the instance of what they derive
abbrev pub LetterLaw : (Formula → Type 0) → (Formula → Type 0) → Type 0
LetterLaw A P =
    (f : Formula) (letters : List Letter) →
    DerivesFrom A P f → DerivesFrom A (IsImage (instance letters) P) (instance letters f)

-- a closed term may stand for a constant that occurs in no premise
abbrev pub FreshConstantLaw : (Formula → Type 0) → (Formula → Type 0) → Type 0
FreshConstantLaw A P =
    (f : Formula) (c : ℕ) (t : Term) → closed t ≡ true → ((k : Formula) → P k → occurs_in_formula c k ≡ false) →
    DerivesFrom A P f → DerivesFrom A P (formula_with c t f)
