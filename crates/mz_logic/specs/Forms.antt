-- What a term or a formula is, and a fact of its parts.
use Rattle.std.specs.Prelude.{List}
use Rattle.mz_logic.specs.declared.sym.Sym.{Sym}
use Rattle.mz_logic.specs.Term.{Term, Terms, Bound, Const, App}
use Rattle.mz_logic.specs.Formula.{Formula, Truth, Eq, Atom, Not, And, All}

-- the term is an application of the symbol s to the arguments ts
abbrev pub IfApp : Term → (Sym → Terms → Type 0) → Type 0
IfApp (Bound index) P = ⊥
IfApp (Const number) P = ⊥
IfApp (App s ts) P = P s ts

-- the formula is an equation of t and u
abbrev pub IfEq : Formula → (Term → Term → Type 0) → Type 0
IfEq Truth P = ⊥
IfEq (Eq t u) P = P t u
IfEq (Atom s ts) P = ⊥
IfEq (Not f) P = ⊥
IfEq (And f g) P = ⊥
IfEq (All f) P = ⊥

-- the formula is an atom of the symbol s with arguments ts
abbrev pub IfAtom : Formula → (Sym → List Term → Type 0) → Type 0
IfAtom Truth P = ⊥
IfAtom (Eq t u) P = ⊥
IfAtom (Atom s ts) P = P s ts
IfAtom (Not f) P = ⊥
IfAtom (And f g) P = ⊥
IfAtom (All f) P = ⊥

-- the formula is the negation of f
abbrev pub IfNot : Formula → (Formula → Type 0) → Type 0
IfNot Truth P = ⊥
IfNot (Eq t u) P = ⊥
IfNot (Atom s ts) P = ⊥
IfNot (Not f) P = P f
IfNot (And f g) P = ⊥
IfNot (All f) P = ⊥

-- the formula is the conjunction of f and g
abbrev pub IfAnd : Formula → (Formula → Formula → Type 0) → Type 0
IfAnd Truth P = ⊥
IfAnd (Eq t u) P = ⊥
IfAnd (Atom s ts) P = ⊥
IfAnd (Not f) P = ⊥
IfAnd (And f g) P = P f g
IfAnd (All f) P = ⊥

-- the formula is a quantifier over the body b
abbrev pub IfAll : Formula → (Formula → Type 0) → Type 0
IfAll Truth P = ⊥
IfAll (Eq t u) P = ⊥
IfAll (Atom s ts) P = ⊥
IfAll (Not f) P = ⊥
IfAll (And f g) P = ⊥
IfAll (All b) P = P b
