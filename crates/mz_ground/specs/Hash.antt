-- Hashes of ground terms and atoms.
use Rattle.std.specs.Prelude.{◌≡◌, ℕ, ◌+◌, ◌*◌, ◌%◌, ◌^◌, List, [], ◌∷◌, Option, None, Some, slice_get, nat_eq}
use Rattle.std.specs.HashMap.{get}
use Rattle.mz_logic.specs.declared.sym.Sym.{Sym}
use Rattle.mz_logic.specs.Sym.{kind_number}
use Rattle.mz_ground.specs.declared.hash_places.HashPlaces.{HashPlaces}
use Rattle.mz_ground.specs.declared.ground_term.GroundTerm.{GroundTerm}
use Rattle.mz_ground.specs.declared.ground_term.GroundTerm.TheVariants.{Const, App}
use Rattle.mz_ground.specs.declared.ground_atom.GroundAtom.{GroundAtom}
use Rattle.mz_ground.specs.declared.ground_equation.GroundEquation.{GroundEquation}

-- a hash with one more number taken into it
unfoldable pub hash_with : ℕ → ℕ → ℕ
hash_with hash number = (hash * 1000003 % 2 ^ 64 + number) % 2 ^ 64

-- a hash with these numbers taken into it
abbrev pub hash_with_all : ℕ → List ℕ → ℕ
hash_with_all hash [] = hash
hash_with_all hash (n ∷ ns) = hash_with_all (hash_with hash n) ns

-- a hash with a symbol taken into it
abbrev pub hash_with_symbol : ℕ → Sym → ℕ
hash_with_symbol hash s = hash_with (hash_with (hash_with hash s.article) (kind_number s.kind)) s.number

abbrev pub term_hash : GroundTerm → ℕ
term_hash (Const number) = hash_with 0 number
term_hash (App sym args) = hash_with_all (hash_with_symbol 1 sym) args

abbrev pub atom_hash : GroundAtom → ℕ
atom_hash a = hash_with_all (hash_with_symbol 0 a.sym) a.args

abbrev pub equation_hash : GroundEquation → ℕ
equation_hash e = hash_with (hash_with 2 e.left) e.right

-- the place of a hash
abbrev pub place_of : HashPlaces → ℕ → Option ℕ
place_of p hash = get nat_eq p.places hash

-- the hash of each item has a place
pub record AreHashed {A : Type 0} (hash_of : A → ℕ) (items : List A) (p : HashPlaces) : Type 0 where
  pub hashed : (k : ℕ) (item : A) → slice_get items k ≡ Some item → place_of p (hash_of item) ≡ None → ⊥
