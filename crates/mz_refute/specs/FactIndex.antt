-- What an index of facts stands for.
use Rattle.std.specs.Prelude.{◌≡◌, ◌<◌, ℕ, Bool, List, length, slice_index, slice_get, Some}
use Rattle.mz_logic.specs.declared.disjunct.Disjunct.{Disjunct}
use Rattle.mz_ground.specs.declared.clause.Clause.{Clause}
use Rattle.mz_ground.specs.declared.ground_part.Ground.{Ground}
use Rattle.mz_ground.specs.FactSet.{FactView}
use Rattle.mz_refute.specs.Entries.{HasEntries, HaveSameMembers}
use Rattle.mz_refute.specs.HoldsFacts.{HoldsFacts, entries_of}
use Rattle.mz_refute.specs.declared.fact_index.FactIndex.{FactIndex}

-- the index has the rows of the facts of the disjunct under the clauses, the classes of its ground terms, and their count
pub record IsFactIndex (d : Disjunct) (cs : List Clause) (x : FactIndex) : Type 0 where
  pub part : Ground
  pub classes : List ℕ
  pub positive : List Bool
  pub negative : List Bool
  pub disequal : List Bool
  pub held : HoldsFacts d cs part classes positive negative disequal
  pub entries : HasEntries x.table (entries_of part classes positive negative disequal)
  pub values : HaveSameMembers x.values.items classes
  pub terms : x.terms ≡ length classes

-- the numbers of the ground terms
pub record AreClasses (v : FactView) (classes : List ℕ) : Type 0 where
  pub count : length classes ≡ length v.part.terms
  pub each : (i : ℕ) → i < length v.part.terms → slice_index classes i ≡ v.class i

-- whether the ground atoms have the sign
pub record AreSigns (v : FactView) (positive : Bool) (flags : List Bool) : Type 0 where
  pub count : length flags ≡ length v.part.atoms
  pub each : (k : ℕ) → k < length v.part.atoms → slice_get flags k ≡ Some (v.signed positive k)

-- whether the ground equations fail
pub record AreDisequal (v : FactView) (flags : List Bool) : Type 0 where
  pub count : length flags ≡ length v.part.equations
  pub each : (k : ℕ) → k < length v.part.equations → slice_get flags k ≡ Some (v.disequal k)
