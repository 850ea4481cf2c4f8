-- What stands for the letters of schemes.
use Rattle.std.specs.Prelude.{Bool, List, Option, Some, None, find, nat_eq, if◌then◌else◌}
use Rattle.mz_logic.specs.Term.{Term}
use Rattle.mz_logic.specs.Formula.{Formula}
use Rattle.mz_logic.specs.Sym.{same_sym, kind_number}
use Rattle.mz_logic.specs.declared.sym.Sym.{Sym}
use Rattle.mz_logic.specs.declared.kind.Kind.TheVariants.{LetterFunctor, LetterPredicate}
use Rattle.mz_logic.specs.declared.letters.Letter.{Letter}
use Rattle.mz_logic.specs.declared.letters.Body.{Body}
use Rattle.mz_logic.specs.declared.letters.Body.TheVariants.{OfTerm, OfFormula}

abbrev pub is_functor_letter : Sym → Bool
is_functor_letter s = nat_eq (kind_number s.kind) (kind_number LetterFunctor)

abbrev pub is_predicate_letter : Sym → Bool
is_predicate_letter s = nat_eq (kind_number s.kind) (kind_number LetterPredicate)

-- the entry is one of the letter s
abbrev pub is_of : Sym → Letter → Bool
is_of s l = same_sym l.letter s

abbrev pub term_in : Body → Option Term
term_in (OfTerm t) = Some t
term_in (OfFormula f) = None

abbrev pub formula_in : Body → Option Formula
formula_in (OfTerm t) = None
formula_in (OfFormula f) = Some f

abbrev pub term_at : Option Letter → Option Term
term_at None = None
term_at (Some l) = term_in l.body

abbrev pub formula_at : Option Letter → Option Formula
formula_at None = None
formula_at (Some l) = formula_in l.body

-- the term that stands for a functor letter; its first entry counts
abbrev pub term_for : Sym → List Letter → Option Term
term_for s ls = if is_functor_letter s then term_at (find (is_of s) ls) else None

-- the formula that stands for a predicate letter; its first entry counts
abbrev pub formula_for : Sym → List Letter → Option Formula
formula_for s ls = if is_predicate_letter s then formula_at (find (is_of s) ls) else None
