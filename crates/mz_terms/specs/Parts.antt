-- The parts of a run: its operands, and its symbols with their ranks.
use Rattle.std.specs.Prelude.{ℕ, ◌+◌, Bool, true, false, ◌&&◌, not, nat_eq, bytes_eq, List, [], ◌∷◌, length}
use Rattle.std.specs.List.{list_any}
use Rattle.mz_logic.specs.Sym.{kind_number}
use Rattle.mz_logic.specs.declared.kind.Kind.TheVariants as kind
use Rattle.mz_core.specs.declared.notation.Notation.{Notation}
use Rattle.mz_environment.specs.declared.environment.Environment.{Environment}
use Rattle.mz_grouping.specs.declared.grouping.Part.{Part}
use Rattle.mz_grouping.specs.declared.grouping.Part.TheVariants as part
use Rattle.mz_tree.specs.Trees.{PieceData, FunctorPiece, OperandPiece}
use Rattle.mz_terms.specs.declared.neighbour.Neighbour.{Neighbour}
use Rattle.mz_terms.specs.declared.neighbour.Neighbour.TheVariants.{Operand, Nullary, Other}

-- a notation of the functor symbol that has an argument
abbrev pub has_argument : List ℕ → Notation → Bool
has_argument symbol x =
    bytes_eq x.pattern.symbol symbol && nat_eq (length x.pattern.closing) 0 && nat_eq (kind_number x.pattern.kind) (kind_number kind.Functor) && not (nat_eq (length x.pattern.left) 0 && nat_eq (length x.pattern.right) 0)

-- some notation of the functor symbol has; a symbol that has none is an operand beside others
abbrev pub takes_arguments : Environment → List ℕ → Bool
takes_arguments e symbol = list_any (has_argument symbol) e.notations

-- directly after an operand of the grammar; or after a symbol that is one here
abbrev pub is_operand : Neighbour → Bool
is_operand Operand = true
is_operand Nullary = false
is_operand Other = false

abbrev pub is_beside : Neighbour → Bool
is_beside Operand = true
is_beside Nullary = true
is_beside Other = false

-- a symbol's rank is its priority; without arguments it counts as a functor only where its run has no other symbol, so its
-- rank is above all priorities, and what stands before it is an operand only where the grammar says so
abbrev pub symbol_part : Bool → Neighbour → ℕ → Part
symbol_part true before priority = part.Symbol priority (is_beside before)
symbol_part false before priority = part.Symbol (priority + 256) (is_operand before)

abbrev pub symbol_neighbour : Bool → Neighbour
symbol_neighbour true = Other
symbol_neighbour false = Nullary

abbrev pub part_of : Environment → Neighbour → PieceData → Part
part_of e before (FunctorPiece w priority) = symbol_part (takes_arguments e w.spelling) before priority
part_of e before (OperandPiece ps b) = part.Operand

abbrev pub neighbour_of : Environment → PieceData → Neighbour
neighbour_of e (FunctorPiece w priority) = symbol_neighbour (takes_arguments e w.spelling)
neighbour_of e (OperandPiece ps b) = Operand

-- the parts of pieces, what stands before them being known
abbrev pub parts_behind : Environment → Neighbour → List PieceData → List Part
parts_behind e before [] = []
parts_behind e before (x ∷ xs) = part_of e before x ∷ parts_behind e (neighbour_of e x) xs

-- the parts of a run
abbrev pub parts_of : Environment → List PieceData → List Part
parts_of e run = parts_behind e Other run
