-- Symbols and their kinds.
use Rattle.std.specs.Prelude.{ℕ, Bool, ◌&&◌, nat_eq}
use Rattle.mz_logic.specs.declared.sym.Sym.{Sym}
use Rattle.mz_logic.specs.declared.kind.Kind.{Kind}
use Rattle.mz_logic.specs.declared.kind.Kind.TheVariants.{Mode, Structure, Attribute, Functor, Selector, Aggregate, Predicate, LetterFunctor, LetterPredicate}

-- the kind's place in the list of kinds
abbrev pub kind_number : Kind → ℕ
kind_number Mode = 0
kind_number Structure = 1
kind_number Attribute = 2
kind_number Functor = 3
kind_number Selector = 4
kind_number Aggregate = 5
kind_number Predicate = 6
kind_number LetterFunctor = 7
kind_number LetterPredicate = 8

-- two symbols are one
abbrev pub same_sym : Sym → Sym → Bool
same_sym r s = nat_eq r.article s.article && nat_eq (kind_number r.kind) (kind_number s.kind) && nat_eq r.number s.number
