-- The table of steps: what a step asks of the thesis, and the thesis after it.
use Rattle.std.specs.Prelude.{List, [], ◌∷◌, ◌++◌, length, drop, Option, Some, None}
use Rattle.mz_logic.specs.Term.{Term, Const}
use Rattle.mz_logic.specs.Same.{IsSame}
use Rattle.mz_core.specs.Statement.{Statement, Truth, Eq, Atom, Not, And, For}
use Rattle.mz_core.specs.StatementForms.{opposite}
use Rattle.mz_core.specs.TypeSubstitution.{statement_at}
use Rattle.mz_core.specs.Parts.{parts, conjunction}
use Rattle.mz_core.specs.Erasure.{erase}
use Rattle.mz_core.specs.declared.soft_type.SoftType.{SoftType}
use Rattle.mz_context.specs.Context.{numbers}
use Rattle.mz_context.specs.declared.constants.Constant.{Constant}
use Rattle.mz_ground.specs.declared.clause.Clause.{Clause}
use Rattle.mz_fits.specs.Fits.{TypeFits}
use Rattle.mz_thesis.specs.declared.step.Step.{Step}
use Rattle.mz_thesis.specs.declared.step.Step.TheVariants.{Let, Assume, Thus, Take}

-- the statements are the same as the first of the others, one by one
abbrev pub BeginSame : List Statement → List Statement → Type 0
BeginSame [] ts = Unit {0}
BeginSame (s ∷ ss) [] = ⊥
BeginSame (s ∷ ss) (t ∷ ts) = IsSame (erase s) (erase t) × BeginSame ss ts

-- what a thesis assumes: the parts of what it negates; one that is no negation negates its negation
abbrev pub antecedents : Statement → List Statement
antecedents Truth = Not Truth ∷ []
antecedents (Eq t u) = Not (Eq t u) ∷ []
antecedents (Atom s ts) = Not (Atom s ts) ∷ []
antecedents (Not s) = parts s
antecedents (And s t) = Not (And s t) ∷ []
antecedents (For ty s) = Not (For ty s) ∷ []

-- the conjunction of the statements behind as many as s has parts; truth where none is left
abbrev pub rest_behind : Statement → List Statement → Statement
rest_behind s ts = conjunction (drop (length (parts s)) ts)

-- the statement is `for x being T holds P`
abbrev pub IfFor : Statement → (SoftType → Statement → Type 0) → Type 0
IfFor Truth P = ⊥
IfFor (Eq t u) P = ⊥
IfFor (Atom s ts) P = ⊥
IfFor (Not s) P = ⊥
IfFor (And s t) P = ⊥
IfFor (For ty s) P = P ty s

-- the statement is `ex x being T st Q`: it negates `for x being T holds P`, with P the negation of Q
abbrev pub IfExists : Statement → (SoftType → Statement → Type 0) → Type 0
IfExists Truth P = ⊥
IfExists (Eq t u) P = ⊥
IfExists (Atom s ts) P = ⊥
IfExists (Not s) P = IfFor s P
IfExists (And s t) P = ⊥
IfExists (For ty s) P = ⊥

-- the body of a quantifier, of any other statement the statement itself
abbrev pub body_of : Statement → Statement
body_of Truth = Truth
body_of (Eq t u) = Eq t u
body_of (Atom s ts) = Atom s ts
body_of (Not s) = Not s
body_of (And s t) = And s t
body_of (For ty s) = s

-- the body of the universal that an existential negates, of any other statement the statement itself
abbrev pub negated_body_of : Statement → Statement
negated_body_of Truth = Truth
negated_body_of (Eq t u) = Eq t u
negated_body_of (Atom s ts) = Atom s ts
negated_body_of (Not s) = body_of s
negated_body_of (And s t) = And s t
negated_body_of (For ty s) = For ty s

-- constants with a fresh one, which has the next number
abbrev pub with_fresh : List (Option Constant) → SoftType → List (Option Constant)
with_fresh ks ty = ks ++ Some (record { name = []; ty = ty; equal = None }) ∷ []

-- the second type fits a fresh constant of the first one
abbrev pub FitsFresh : List Clause → List (Option Constant) → SoftType → SoftType → Type 0
FitsFresh cs ks known ty = TypeFits cs (with_fresh ks known) (Const (numbers ks)) ty

-- when a step fits a thesis:
-- `let x be T`: it is a universal, and T fits a fresh constant of its type
-- `assume A`: it assumes statements that begin with the parts of A
-- `thus A`: its parts begin with those of A
-- `take t`: it is an existential, and its type fits t
abbrev pub Admits : List Clause → List (Option Constant) → Statement → Step → Type 0
Admits cs ks thesis (Let constant ty) = IfFor thesis (λ T P. FitsFresh cs ks T ty)
Admits cs ks thesis (Assume s) = BeginSame (parts s) (antecedents thesis)
Admits cs ks thesis (Thus s) = BeginSame (parts s) (parts thesis)
Admits cs ks thesis (Take t) = IfExists thesis (λ T P. TypeFits cs ks t T)

-- the thesis after a step that fits it:
-- `let`: the body at the constant
-- `assume`: the negation of the rest, so contradiction where none is left
-- `thus`: the rest, or truth
-- `take`: the body at the term
abbrev pub thesis_after : Statement → Step → Statement
thesis_after thesis (Let constant ty) = statement_at (body_of thesis) (Const constant)
thesis_after thesis (Assume s) = opposite (rest_behind s (antecedents thesis))
thesis_after thesis (Thus s) = rest_behind s (parts thesis)
thesis_after thesis (Take t) = opposite (statement_at (negated_body_of thesis) t)
