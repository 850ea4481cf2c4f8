-- Terms. `Bound(0)` is the index of the innermost binder; a `Const` is a constant, by its number.
use Rattle.std.specs.Prelude.{ℕ, List, [], ◌∷◌}
use Rattle.mz_logic.specs.declared.sym.Sym.{Sym}

mutual
  pub data Term : Type 0 where
    Bound : ℕ → Term
    Const : ℕ → Term
    App : Sym → Terms → Term

  pub data Terms : Type 0 where
    none : Terms
    more : Term → Terms → Terms

-- the arguments as a list
abbrev pub list_of : Terms → List Term
list_of none = []
list_of (more t ts) = t ∷ list_of ts

-- the list as arguments
abbrev pub terms_of : List Term → Terms
terms_of [] = none
terms_of (t ∷ ts) = more t (terms_of ts)
