-- When two heads are one, and their numbers.
use Rattle.std.specs.Prelude.{ℕ, Bool, true, false, nat_eq}
use Rattle.mz_logic.specs.Sym.{same_sym}
use Rattle.mz_logic.specs.declared.sym.Sym.{Sym}
use Rattle.mz_match.specs.declared.row.Head.{Head}
use Rattle.mz_match.specs.declared.row.Head.TheVariants.{Constant, Functor, Holds, Fails, Disequal}

abbrev pub is_constant : ℕ → Head → Bool
is_constant m (Constant n) = nat_eq m n
is_constant m _ = false

abbrev pub is_functor : Sym → Head → Bool
is_functor r (Functor s) = same_sym r s
is_functor r _ = false

abbrev pub is_holds : Sym → Head → Bool
is_holds r (Holds s) = same_sym r s
is_holds r _ = false

abbrev pub is_fails : Sym → Head → Bool
is_fails r (Fails s) = same_sym r s
is_fails r _ = false

abbrev pub is_disequal : Head → Bool
is_disequal Disequal = true
is_disequal _ = false

abbrev pub same_head : Head → Head → Bool
same_head (Constant m) h = is_constant m h
same_head (Functor s) h = is_functor s h
same_head (Holds s) h = is_holds s h
same_head (Fails s) h = is_fails s h
same_head Disequal h = is_disequal h

-- the number of the constant or of the symbol
abbrev pub number_of : Head → ℕ
number_of (Constant n) = n
number_of (Functor s) = s.number
number_of (Holds s) = s.number
number_of (Fails s) = s.number
number_of Disequal = 0
