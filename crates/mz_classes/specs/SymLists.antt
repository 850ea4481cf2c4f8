-- Lists of numbers by symbols.
use Rattle.std.specs.Prelude.{◌≡◌, ◌<◌, ℕ, List, [], ◌∷◌, ◌++◌, Option, None, Some, length, if◌then◌else◌}
use Rattle.mz_logic.specs.Sym.{same_sym}
use Rattle.mz_logic.specs.declared.sym.Sym.{Sym}
use Rattle.mz_congruence.specs.Signature.{sym_code, place_of}
use Rattle.mz_classes.specs.Numbers.{list_at}
use Rattle.mz_classes.specs.declared.sym_lists.SymLists.{SymLists}

abbrev pub list_of_place : List (List ℕ) → Option ℕ → List ℕ
list_of_place xss None = []
list_of_place xss (Some place) = list_at xss place

-- the list of a symbol, and the empty one where there is none
abbrev pub sym_list : SymLists → Sym → List ℕ
sym_list x s = list_of_place x.lists (place_of x.places (sym_code 0 s))

-- places are those of lists, no two symbols' codes have one
pub record HasPlaces (x : SymLists) : Type 0 where
  pub within : (code : List ℕ) (place : ℕ) → place_of x.places code ≡ Some place → place < length x.lists
  pub distinct : (code other : List ℕ) (place : ℕ) → place_of x.places code ≡ Some place → place_of x.places other ≡ Some place → code ≡ other

-- the symbol has its list at the place, and all lists are as before
pub record HasList (old : SymLists) (sym : Sym) (new : SymLists) (place : ℕ) : Type 0 where
  pub places : HasPlaces new
  pub found : place_of new.places (sym_code 0 sym) ≡ Some place
  pub same : (s : Sym) → sym_list new s ≡ sym_list old s

-- the list of the symbol has one more number at its end, and the others are as before
pub record HasOneMore (old : SymLists) (sym : Sym) (number : ℕ) (new : SymLists) : Type 0 where
  pub places : HasPlaces new
  pub lists : (s : Sym) → sym_list new s ≡ (if same_sym sym s then sym_list old s ++ number ∷ [] else sym_list old s)
