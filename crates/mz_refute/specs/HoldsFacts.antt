-- Arrays that hold the facts over a ground part.
use Rattle.std.specs.Prelude.{◌≡◌, ◌<◌, ◌↔◌, ℕ, Bool, true, false, List, ◌++◌, map, length, slice_index, slice_get, Some}
use Rattle.mz_logic.specs.declared.literal.Literal.TheVariants.{Atom, Eq}
use Rattle.mz_logic.specs.declared.disjunct.Disjunct.{Disjunct}
use Rattle.mz_ground.specs.declared.clause.Clause.{Clause}
use Rattle.mz_ground.specs.declared.ground_part.Ground.{Ground}
use Rattle.mz_ground.specs.declared.ground_atom.GroundAtom.{GroundAtom}
use Rattle.mz_ground.specs.declared.ground_equation.GroundEquation.{GroundEquation}
use Rattle.mz_ground.specs.Ground.{IsGround, ground_terms, term_at}
use Rattle.mz_ground.specs.Facts.{Fact}
use Rattle.mz_refute.specs.Entries.{Entry, term_entries, atom_entries, equation_entries}

-- a number for each ground term, one for equal terms; for each ground atom whether it and whether its negation is a fact;
-- for each ground equation whether its negation is one
pub record HoldsFacts (d : Disjunct) (cs : List Clause) (g : Ground) (classes : List ℕ) (positive negative disequal : List Bool) : Type 0 where
  pub ground : IsGround d cs g
  pub class_count : length classes ≡ length g.terms
  pub positive_count : length positive ≡ length g.atoms
  pub negative_count : length negative ≡ length g.atoms
  pub disequal_count : length disequal ≡ length g.equations
  pub equal : (i j : ℕ) → i < length g.terms → j < length g.terms → ((slice_index classes i ≡ slice_index classes j) ↔ Fact d cs (Eq true (term_at (ground_terms g) i) (term_at (ground_terms g) j)))
  pub holds : (k : ℕ) (a : GroundAtom) → slice_get g.atoms k ≡ Some a → ((slice_get positive k ≡ Some true) ↔ Fact d cs (Atom true a.sym (map (term_at (ground_terms g)) a.args)))
  pub fails : (k : ℕ) (a : GroundAtom) → slice_get g.atoms k ≡ Some a → ((slice_get negative k ≡ Some true) ↔ Fact d cs (Atom false a.sym (map (term_at (ground_terms g)) a.args)))
  pub differ : (k : ℕ) (e : GroundEquation) → slice_get g.equations k ≡ Some e → ((slice_get disequal k ≡ Some true) ↔ Fact d cs (Eq false (term_at (ground_terms g) e.left) (term_at (ground_terms g) e.right)))

-- the entries of the table of these facts
abbrev pub entries_of : Ground → List ℕ → List Bool → List Bool → List Bool → List Entry
entries_of g classes positive negative disequal = term_entries classes classes g.terms ++ (atom_entries classes positive negative g.atoms ++ equation_entries classes disequal g.equations)
