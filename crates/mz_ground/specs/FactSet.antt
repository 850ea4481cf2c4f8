-- What is known of the facts of a disjunct, by the places of its ground terms, atoms and equations.
use Rattle.std.specs.Prelude.{◌≡◌, ◌<◌, ◌↔◌, ℕ, Bool, true, false, List, map, length, slice_get, Some, IsTrue}
use Rattle.mz_logic.specs.declared.literal.Literal.{Literal}
use Rattle.mz_logic.specs.declared.literal.Literal.TheVariants.{Atom, Eq}
use Rattle.mz_logic.specs.declared.disjunct.Disjunct.{Disjunct}
use Rattle.mz_ground.specs.Ground.{term_at, ground_terms, IsGround}
use Rattle.mz_ground.specs.Facts.{Fact, IsContradictory}
use Rattle.mz_ground.specs.declared.clause.Clause.{Clause}
use Rattle.mz_ground.specs.declared.ground_part.Ground.{Ground}
use Rattle.mz_ground.specs.declared.ground_atom.GroundAtom.{GroundAtom}
use Rattle.mz_ground.specs.declared.ground_equation.GroundEquation.{GroundEquation}

-- a ground part; a number for the ground term at a place; whether the ground atom at a place is a fact, or with false
-- whether its negation is; whether the negation of the ground equation at a place is a fact
pub record FactView : Type 0 where
  pub part : Ground
  pub class : ℕ → ℕ
  pub signed : Bool → ℕ → Bool
  pub disequal : ℕ → Bool

-- what is known are exactly the facts of the disjunct under the clauses
pub record HasFacts (d : Disjunct) (cs : List Clause) (v : FactView) : Type 0 where
  pub ground : IsGround d cs v.part
  -- two ground terms have one number exactly where they are equal
  pub equal : (i j : ℕ) → i < length v.part.terms → j < length v.part.terms → (v.class i ≡ v.class j) ↔ Fact d cs (Eq true (term_at (ground_terms v.part) i) (term_at (ground_terms v.part) j))
  -- the ground atom has the sign exactly where that is a fact
  pub signed : (positive : Bool) (k : ℕ) (a : GroundAtom) → slice_get v.part.atoms k ≡ Some a → (v.signed positive k ≡ true) ↔ Fact d cs (Atom positive a.sym (map (term_at (ground_terms v.part)) a.args))
  -- the ground equation fails exactly where that is a fact
  pub disequal : (k : ℕ) (e : GroundEquation) → slice_get v.part.equations k ≡ Some e → (v.disequal k ≡ true) ↔ Fact d cs (Eq false (term_at (ground_terms v.part) e.left) (term_at (ground_terms v.part) e.right))

-- b tells whether the literal is a fact, whatever disjunct and clauses these are the facts of
unfoldable pub DecidesFact : FactView → Literal → Bool → Type 0
DecidesFact v l b = (d : Disjunct) (cs : List Clause) → HasFacts d cs v → IsTrue b ↔ Fact d cs l

-- b tells whether the facts are contradictory
unfoldable pub DecidesContradiction : FactView → Bool → Type 0
DecidesContradiction v b = (d : Disjunct) (cs : List Clause) → HasFacts d cs v → IsTrue b ↔ IsContradictory d cs
