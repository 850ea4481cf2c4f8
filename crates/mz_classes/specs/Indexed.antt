-- How terms and atoms are found by class, symbol and sign.
use Rattle.std.specs.Prelude.{◌≡◌, ℕ, Bool, false, ◌&&◌, List, [], ◌∷◌, ◌++◌, if◌then◌else◌, Option, None, Some, length, slice_get, slice_index, nat_eq, ◌<◌}
use Rattle.mz_logic.specs.Sym.{same_sym}
use Rattle.mz_logic.specs.declared.sym.Sym.{Sym}
use Rattle.mz_ground.specs.declared.ground_atom.GroundAtom.{GroundAtom}
use Rattle.mz_ground.specs.FactSet.{FactView}
use Rattle.mz_classes.specs.Numbers.{list_at, numbers_where}
use Rattle.mz_classes.specs.SymLists.{sym_list, HasPlaces}
use Rattle.mz_classes.specs.declared.sym_lists.SymLists.{SymLists}

-- the term with the number m has the label
abbrev pub has_label : FactView → List ℕ → ℕ → ℕ → Bool
has_label v places label m = nat_eq (v.class (slice_index places m)) label

abbrev pub has_sym : Sym → Option GroundAtom → Bool
has_sym s None = false
has_sym s (Some a) = same_sym a.sym s

-- the atom with the number k has the symbol and is a fact with the sign
abbrev pub has_sign : FactView → List ℕ → Sym → Bool → ℕ → Bool
has_sign v places s positive k = has_sym s (slice_get v.part.atoms (slice_index places k)) && v.signed positive (slice_index places k)

-- each label has the numbers of its terms
abbrev pub AreMemberLists : FactView → List ℕ → List (List ℕ) → Type 0
AreMemberLists v places xss = (label : ℕ) → list_at xss label ≡ numbers_where (has_label v places label) (length v.part.terms)

-- each symbol has the numbers of its atoms that are facts with the sign
abbrev pub AreSignedLists : FactView → List ℕ → Bool → SymLists → Type 0
AreSignedLists v places positive x = (s : Sym) → sym_list x s ≡ numbers_where (has_sign v places s positive) (length v.part.atoms)

-- the places of the numbers below n are themselves below n
abbrev pub AreWithin : ℕ → List ℕ → Type 0
AreWithin n places = (k : ℕ) → k < n → slice_index places k < n

-- the number k is put into the list of the atom's symbol, where that has the sign
pub record HasOneAtomMore (v : FactView) (atom_places : List ℕ) (positive : Bool) (k : ℕ) (old new : SymLists) : Type 0 where
  pub places : HasPlaces new
  pub lists : (s : Sym) → sym_list new s ≡ sym_list old s ++ (if has_sign v atom_places s positive k then k ∷ [] else [])
