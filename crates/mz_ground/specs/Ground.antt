-- What a value of the type `Ground` stands for.
use Rattle.std.specs.Prelude.{◌≡◌, ◌≢◌, ◌≤◌, ◌<◌, ◌↔◌, ℕ, suc, All, AllPairs, List, [], ◌∷◌, ◌++◌, map, length, take, Contains, Option, Some, None, slice_get}
use Rattle.mz_logic.specs.declared.sym.Sym.{Sym}
use Rattle.mz_logic.specs.Term as term
use Rattle.mz_logic.specs.Term.{Term, terms_of}
use Rattle.mz_logic.specs.declared.disjunct.Disjunct.{Disjunct}
use Rattle.mz_ground.specs.GroundExpression.{GroundExpression, TermExpression, AtomExpression, EquationExpression, IsAtomExpression}
use Rattle.mz_ground.specs.Layers.{InLayer, further_layers}
use Rattle.mz_ground.specs.declared.clause.Clause.{Clause}
use Rattle.mz_ground.specs.declared.ground_part.Ground.{Ground}
use Rattle.mz_ground.specs.declared.ground_term.GroundTerm.{GroundTerm}
use Rattle.mz_ground.specs.declared.ground_term.GroundTerm.TheVariants.{Const, App}
use Rattle.mz_ground.specs.declared.ground_atom.GroundAtom.{GroundAtom}
use Rattle.mz_ground.specs.declared.ground_equation.GroundEquation.{GroundEquation}
use Rattle.mz_ground.specs.declared.layer_ends.LayerEnd.{LayerEnd}
use Rattle.mz_ground.specs.declared.ground_fault.GroundFault.{GroundFault}
use Rattle.mz_ground.specs.declared.ground_fault.GroundFault.TheVariants.{TooManyTerms, TooManyAtoms, Memory}

abbrev pub term_or_zero : Option Term → Term
term_or_zero None = term.Const 0
term_or_zero (Some t) = t

-- the term at a place, and the constant 0 where there is none
abbrev pub term_at : List Term → ℕ → Term
term_at ts place = term_or_zero (slice_get ts place)

-- the term of an entry whose arguments stand among the terms before it
abbrev pub term_of_entry : List Term → GroundTerm → Term
term_of_entry before (Const number) = term.Const number
term_of_entry before (App sym args) = term.App sym (terms_of (map (term_at before) args))

-- the terms of entries that follow the terms before them
abbrev pub terms_after : List Term → List GroundTerm → List Term
terms_after before [] = before
terms_after before (e ∷ es) = terms_after (before ++ term_of_entry before e ∷ []) es

-- the ground terms in the order of their places
abbrev pub ground_terms : Ground → List Term
ground_terms g = terms_after [] g.terms

abbrev pub atom_expression : List Term → GroundAtom → GroundExpression
atom_expression ts a = AtomExpression a.sym (map (term_at ts) a.args)

abbrev pub equation_expression : List Term → GroundEquation → GroundExpression
equation_expression ts e = EquationExpression (term_at ts e.left) (term_at ts e.right)

-- the ground atoms and equations in the order of their places
abbrev pub ground_atoms : Ground → List GroundExpression
ground_atoms g = map (atom_expression (ground_terms g)) g.atoms

abbrev pub ground_equations : Ground → List GroundExpression
ground_equations g = map (equation_expression (ground_terms g)) g.equations

-- the numbers of terms, atoms and equations that stand in the layer n and before it
abbrev pub end_or_none : Option LayerEnd → LayerEnd
end_or_none None = record { terms = 0; atoms = 0; equations = 0 }
end_or_none (Some e) = e

abbrev pub end_of : Ground → ℕ → LayerEnd
end_of g n = end_or_none (slice_get g.ends n)

-- no two members are equal
abbrev pub IsDistinct : {A : Type 0} → List A → Type 0
IsDistinct xs = AllPairs (λ x y. x ≢ y) xs

-- g has the terms, atoms and equations of the ground part, each once and in the order of the layers
pub record IsGround (d : Disjunct) (cs : List Clause) (g : Ground) : Type 0 where
  -- an argument stands before the term
  pub earlier : (i k : ℕ) (sym : Sym) (args : List ℕ) → slice_get g.terms i ≡ Some (App sym args) → Contains args k → k < i
  pub atoms_within : (a : GroundAtom) (k : ℕ) → Contains g.atoms a → Contains a.args k → k < length g.terms
  pub equations_within : (e : GroundEquation) → Contains g.equations e → (e.left < length g.terms) × (e.right < length g.terms)
  -- after each layer the first members are those of the layer
  pub layers : length g.ends ≡ suc further_layers
  pub terms : (n : ℕ) (t : Term) → n ≤ further_layers → (Contains (take (end_of g n).terms (ground_terms g)) t ↔ InLayer d cs n (TermExpression t))
  pub atoms : (n : ℕ) (s : Sym) (ts : List Term) → n ≤ further_layers → (Contains (take (end_of g n).atoms (ground_atoms g)) (AtomExpression s ts) ↔ InLayer d cs n (AtomExpression s ts))
  pub equations : (n : ℕ) (t u : Term) → n ≤ further_layers → (Contains (take (end_of g n).equations (ground_equations g)) (EquationExpression t u) ↔ InLayer d cs n (EquationExpression t u))
  -- the last layer has all members
  pub all : end_of g further_layers ≡ record { terms = length g.terms; atoms = length g.atoms; equations = length g.equations }
  -- each stands once
  pub distinct_terms : IsDistinct (ground_terms g)
  pub distinct_atoms : IsDistinct (ground_atoms g)
  pub distinct_equations : IsDistinct (ground_equations g)

abbrev pub most_terms : ℕ
most_terms = 4096

abbrev pub most_atoms : ℕ
most_atoms = 16384

-- the terms of the layer n and of those before it are these, each once
pub record AreTermsOf (d : Disjunct) (cs : List Clause) (n : ℕ) (ts : List Term) : Type 0 where
  pub members : (t : Term) → (Contains ts t ↔ InLayer d cs n (TermExpression t))
  pub distinct : IsDistinct ts

-- the atoms of the layer n and of those before it are these, each once
pub record AreAtomsOf (d : Disjunct) (cs : List Clause) (n : ℕ) (ps : List GroundExpression) : Type 0 where
  pub members : (p : GroundExpression) → (Contains ps p ↔ (IsAtomExpression p × InLayer d cs n p))
  pub distinct : IsDistinct ps

abbrev pub IsWithinTerms : Disjunct → List Clause → ℕ → Type 0
IsWithinTerms d cs n = (ts : List Term) × AreTermsOf d cs n ts × (length ts ≤ most_terms)

abbrev pub IsWithinAtoms : Disjunct → List Clause → ℕ → Type 0
IsWithinAtoms d cs n = (ps : List GroundExpression) × AreAtomsOf d cs n ps × (length ps ≤ most_atoms)

-- the layer n and those before it have more terms than the limit
abbrev pub PassesTerms : Disjunct → List Clause → ℕ → Type 0
PassesTerms d cs n = (ts : List Term) × IsDistinct ts × All (λ t. InLayer d cs n (TermExpression t)) ts × (most_terms < length ts)

-- the layer n and those before it have more atoms than the limit
abbrev pub PassesAtoms : Disjunct → List Clause → ℕ → Type 0
PassesAtoms d cs n = (ps : List GroundExpression) × IsDistinct ps × All (λ p. IsAtomExpression p × InLayer d cs n p) ps × (most_atoms < length ps)

-- each layer before the layer n keeps both limits
abbrev pub AreWithinBefore : Disjunct → List Clause → ℕ → Type 0
AreWithinBefore d cs n = (m : ℕ) → m < n → IsWithinTerms d cs m × IsWithinAtoms d cs m

-- n is the first layer that passes a limit, and it passes that of terms
pub record HasTooManyTerms (d : Disjunct) (cs : List Clause) (n : ℕ) : Type 0 where
  pub layer : n ≤ further_layers
  pub before : AreWithinBefore d cs n
  pub passes : PassesTerms d cs n

-- n is the first layer that passes a limit, and it passes that of atoms alone
pub record HasTooManyAtoms (d : Disjunct) (cs : List Clause) (n : ℕ) : Type 0 where
  pub layer : n ≤ further_layers
  pub before : AreWithinBefore d cs n
  pub terms : IsWithinTerms d cs n
  pub passes : PassesAtoms d cs n

-- why there is no ground part
abbrev pub GroundFails : Disjunct → List Clause → GroundFault → Type 0
GroundFails d cs TooManyTerms = (n : ℕ) × HasTooManyTerms d cs n
GroundFails d cs TooManyAtoms = (n : ℕ) × HasTooManyAtoms d cs n
GroundFails d cs Memory = Unit {0}

-- the ground part, with each layer within the limits
abbrev pub IsGroundWithinLimits : Disjunct → List Clause → Ground → Type 0
IsGroundWithinLimits d cs g = IsGround d cs g × (length g.terms ≤ most_terms) × (length g.atoms ≤ most_atoms)
