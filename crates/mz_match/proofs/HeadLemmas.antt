-- When two heads are one, and the rows of a table with one row more.
use Rattle.std.proofs.Common.{◌≡◌, refl, ap, true, eqb-true, eq-eqb}
use Rattle.mz_match.specs.Heads.{same_head}
use Rattle.mz_match.specs.declared.row.Head.{Head}
use Rattle.mz_match.specs.declared.row.Head.TheVariants.{Constant, Functor, Holds, Fails, Disequal}
use Rattle.mz_match.proofs.SymbolLaws.{same_sym-true, sym-same}

pub same_head-true : (g h : Head) → same_head g h ≡ true → g ≡ h
same_head-true (Constant m) (Constant n) e = ap (λ k. Constant k) (eqb-true m n e)
same_head-true (Constant m) (Functor s) e = cc
same_head-true (Constant m) (Holds s) e = cc
same_head-true (Constant m) (Fails s) e = cc
same_head-true (Constant m) Disequal e = cc
same_head-true (Functor r) (Constant n) e = cc
same_head-true (Functor r) (Functor s) e = ap (λ k. Functor k) (same_sym-true r s e)
same_head-true (Functor r) (Holds s) e = cc
same_head-true (Functor r) (Fails s) e = cc
same_head-true (Functor r) Disequal e = cc
same_head-true (Holds r) (Constant n) e = cc
same_head-true (Holds r) (Functor s) e = cc
same_head-true (Holds r) (Holds s) e = ap (λ k. Holds k) (same_sym-true r s e)
same_head-true (Holds r) (Fails s) e = cc
same_head-true (Holds r) Disequal e = cc
same_head-true (Fails r) (Constant n) e = cc
same_head-true (Fails r) (Functor s) e = cc
same_head-true (Fails r) (Holds s) e = cc
same_head-true (Fails r) (Fails s) e = ap (λ k. Fails k) (same_sym-true r s e)
same_head-true (Fails r) Disequal e = cc
same_head-true Disequal (Constant n) e = cc
same_head-true Disequal (Functor s) e = cc
same_head-true Disequal (Holds s) e = cc
same_head-true Disequal (Fails s) e = cc
same_head-true Disequal Disequal e = refl

pub same_head-self : (h : Head) → same_head h h ≡ true
same_head-self (Constant n) = eq-eqb n n refl
same_head-self (Functor s) = sym-same s s refl
same_head-self (Holds s) = sym-same s s refl
same_head-self (Fails s) = sym-same s s refl
same_head-self Disequal = refl
