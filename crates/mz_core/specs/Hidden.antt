-- The symbols of HIDDEN that the rules speak of, and their types and atoms.
use Rattle.std.specs.Prelude.{ℕ, Bool, ◌||◌, [], ◌∷◌, codes}
use Rattle.mz_base.specs.Name.{number_of}
use Rattle.mz_logic.specs.declared.kind.Kind.TheVariants.{Mode, Predicate}
use Rattle.mz_logic.specs.declared.sym.Sym.{Sym}
use Rattle.mz_logic.specs.Sym.{same_sym}
use Rattle.mz_logic.specs.Term.{Term}
use Rattle.mz_core.specs.Statement.{Statement, Atom}
use Rattle.mz_core.specs.declared.soft_type.SoftType.{SoftType}

-- the number of the name HIDDEN
abbrev pub hidden_number : ℕ
hidden_number = number_of (codes "HIDDEN")

-- HIDDEN's modes `object` and `set`
abbrev pub object_mode : Sym
object_mode = record { article = hidden_number; kind = Mode; number = 1 }

abbrev pub set_mode : Sym
set_mode = record { article = hidden_number; kind = Mode; number = 2 }

-- HIDDEN's predicate `in`
abbrev pub in_predicate : Sym
in_predicate = record { article = hidden_number; kind = Predicate; number = 1 }

-- what has such a radix may be any object
abbrev pub is_of_any_object : Sym → Bool
is_of_any_object s = same_sym s object_mode || same_sym s set_mode

-- a mode without arguments, as a type
abbrev pub plain_type : Sym → SoftType
plain_type s = record { adjectives = []; radix = record { sym = s; args = [] } }

abbrev pub object_type : SoftType
object_type = plain_type object_mode

abbrev pub set_type : SoftType
set_type = plain_type set_mode

-- t in u
abbrev pub is_in : Term → Term → Statement
is_in t u = Atom in_predicate (t ∷ u ∷ [])
