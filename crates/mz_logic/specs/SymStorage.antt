-- How a symbol is stored: as a tree of numbers.
use Rattle.std.specs.Prelude.{◌≡◌, ℕ, zero, suc, refl}
use base.Stored.{Gv, gnil, gnum, gcons, num}
use Rattle.mz_logic.specs.Sym.{kind_number}
use Rattle.mz_logic.specs.declared.sym.Sym.{Sym}
use Rattle.mz_logic.specs.declared.kind.Kind.{Kind}
use Rattle.mz_logic.specs.declared.kind.Kind.TheVariants.{Mode, Structure, Attribute, Functor, Selector, Aggregate, Predicate, LetterFunctor, LetterPredicate}

-- the kind at a place
abbrev pub kind_at : ℕ → Kind
kind_at zero = Mode
kind_at (suc zero) = Structure
kind_at (suc (suc zero)) = Attribute
kind_at (suc (suc (suc zero))) = Functor
kind_at (suc (suc (suc (suc zero)))) = Selector
kind_at (suc (suc (suc (suc (suc zero))))) = Aggregate
kind_at (suc (suc (suc (suc (suc (suc zero)))))) = Predicate
kind_at (suc (suc (suc (suc (suc (suc (suc zero))))))) = LetterFunctor
kind_at (suc (suc (suc (suc (suc (suc (suc (suc n)))))))) = LetterPredicate

pub kind_at-kind_number : (k : Kind) → kind_at (kind_number k) ≡ k
kind_at-kind_number Mode = refl
kind_at-kind_number Structure = refl
kind_at-kind_number Attribute = refl
kind_at-kind_number Functor = refl
kind_at-kind_number Selector = refl
kind_at-kind_number Aggregate = refl
kind_at-kind_number Predicate = refl
kind_at-kind_number LetterFunctor = refl
kind_at-kind_number LetterPredicate = refl

abbrev pub sym_gv : Sym → Gv
sym_gv s = gcons (gnum s.article) (gcons (gnum (kind_number s.kind)) (gnum s.number))

abbrev pub gv_sym : Gv → Sym
gv_sym gnil = record { article = 0; kind = Mode; number = 0 }
gv_sym (gnum n) = record { article = 0; kind = Mode; number = 0 }
gv_sym (gcons a gnil) = record { article = num a; kind = Mode; number = 0 }
gv_sym (gcons a (gnum n)) = record { article = num a; kind = Mode; number = 0 }
gv_sym (gcons a (gcons k n)) = record { article = num a; kind = kind_at (num k); number = num n }

pub gv_sym-sym_gv : (s : Sym) → gv_sym (sym_gv s) ≡ s
gv_sym-sym_gv s i = record { article = s.article; kind = kind_at-kind_number s.kind i; number = s.number }
