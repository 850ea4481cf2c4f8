-- Classes of ground terms and signed ground atoms, by the facts of a disjunct alone.
use Rattle.std.specs.Prelude.{◌≡◌, ◌<◌, ◌↔◌, ℕ, Bool, true, List, map, length, Contains, Some, slice_get, slice_index}
use Rattle.std.specs.List.Sorted.{IsStrictlyIncreasing}
use Rattle.mz_logic.specs.declared.sym.Sym.{Sym}
use Rattle.mz_logic.specs.declared.literal.Literal.TheVariants.{Atom, Eq}
use Rattle.mz_logic.specs.Term.{Term}
use Rattle.mz_logic.specs.declared.disjunct.Disjunct.{Disjunct}
use Rattle.mz_ground.specs.Ground.{term_at, ground_terms}
use Rattle.mz_ground.specs.Facts.{Fact}
use Rattle.mz_ground.specs.FactSet.{FactView, HasFacts}
use Rattle.mz_ground.specs.declared.clause.Clause.{Clause}
use Rattle.mz_ground.specs.declared.ground_part.Ground.{Ground}
use Rattle.mz_ground.specs.declared.ground_atom.GroundAtom.{GroundAtom}

-- the term with a number, where the places are in the order of the numbers
abbrev pub numbered_term : Ground → List ℕ → ℕ → Term
numbered_term g places n = term_at (ground_terms g) (slice_index places n)

-- the terms with two numbers are equal
abbrev pub AreEqualTerms : Disjunct → List Clause → Ground → List ℕ → ℕ → ℕ → Type 0
AreEqualTerms d cs g places m n = Fact d cs (Eq true (numbered_term g places m) (numbered_term g places n))

-- the class of a term is the least number of a term that is equal to it
pub record IsClassOf (d : Disjunct) (cs : List Clause) (g : Ground) (places : List ℕ) (term class : ℕ) : Type 0 where
  pub within : class < length g.terms
  pub equal : AreEqualTerms d cs g places class term
  pub least : (m : ℕ) → m < class → AreEqualTerms d cs g places m term → ⊥

-- the numbers of the terms whose class this is, ascending
pub record AreMembers (d : Disjunct) (cs : List Clause) (g : Ground) (places : List ℕ) (class : ℕ) (ns : List ℕ) : Type 0 where
  pub ascending : IsStrictlyIncreasing ns
  pub members : (m : ℕ) → Contains ns m ↔ ((m < length g.terms) × IsClassOf d cs g places m class)

-- the atom with a number has the symbol, and is a fact with the sign
abbrev pub IsSignedAtom : Disjunct → List Clause → Ground → List ℕ → Sym → Bool → ℕ → Type 0
IsSignedAtom d cs g places s positive k = (k < length g.atoms) × ((a : GroundAtom) × (slice_get g.atoms (slice_index places k) ≡ Some a) × (a.sym ≡ s) × Fact d cs (Atom positive s (map (term_at (ground_terms g)) a.args)))

-- the numbers of such atoms, ascending
pub record AreSignedAtoms (d : Disjunct) (cs : List Clause) (g : Ground) (places : List ℕ) (s : Sym) (positive : Bool) (ns : List ℕ) : Type 0 where
  pub ascending : IsStrictlyIncreasing ns
  pub atoms : (k : ℕ) → Contains ns k ↔ IsSignedAtom d cs g places s positive k

-- the same for whatever disjunct and clauses the facts are of
unfoldable pub DecidesClass : FactView → List ℕ → ℕ → ℕ → Type 0
DecidesClass v places term class = (d : Disjunct) (cs : List Clause) → HasFacts d cs v → IsClassOf d cs v.part places term class

unfoldable pub DecidesMembers : FactView → List ℕ → ℕ → List ℕ → Type 0
DecidesMembers v places class ns = (d : Disjunct) (cs : List Clause) → HasFacts d cs v → AreMembers d cs v.part places class ns

unfoldable pub DecidesSigned : FactView → List ℕ → Sym → Bool → List ℕ → Type 0
DecidesSigned v places s positive ns = (d : Disjunct) (cs : List Clause) → HasFacts d cs v → AreSignedAtoms d cs v.part places s positive ns
