-- The radices that rows give to a symbol at arguments.
use Rattle.std.specs.Prelude.{◌≡◌, false, true, List, [], ◌∷◌, ◌++◌, length, reverse, Option, Some, None}
use Rattle.mz_logic.specs.Sym.{same_sym}
use Rattle.mz_logic.specs.declared.sym.Sym.{Sym}
use Rattle.mz_logic.specs.Term.{Term}
use Rattle.mz_core.specs.declared.radix.Radix.{Radix}
use Rattle.mz_core.specs.declared.soft_type.SoftType.{SoftType}
use Rattle.mz_context.specs.declared.constants.Constant.{Constant}
use Rattle.mz_environment.specs.declared.rows.Row.{Row}
use Rattle.mz_ground.specs.declared.clause.Clause.{Clause}
use Rattle.mz_fits.specs.Fits.{type_at}
use Rattle.mz_fits.specs.Matching.{Fixed, unfixed, AllMatched, Accepted}

-- the radix of a type under loci, at values in the order of the loci
unfoldable pub radix_at : List Term → SoftType → Radix
radix_at values ty = (type_at (reverse values) ty).radix

-- the radix of the row's type, where the arguments match and the guards of the loci fit
pub data RowGives (cs : List Clause) (ks : List (Option Constant)) (args : List Term) (r : Row) : Option Radix → Type 0 where
  unmatched : AllMatched cs ks (length r.loci) (unfixed (length r.loci)) r.args args None → RowGives cs ks args r None
  refused : (fs : Fixed) → AllMatched cs ks (length r.loci) (unfixed (length r.loci)) r.args args (Some fs) → Accepted cs ks r.loci fs None → RowGives cs ks args r None
  gives : (fs : Fixed) (values : List Term) → AllMatched cs ks (length r.loci) (unfixed (length r.loci)) r.args args (Some fs) → Accepted cs ks r.loci fs (Some values) → RowGives cs ks args r (Some (radix_at values r.ty))

-- what a row gives to a symbol at the arguments
pub data RowAdds (cs : List Clause) (ks : List (Option Constant)) (s : Sym) (args : List Term) (r : Row) : List Radix → Type 0 where
  of_other : same_sym r.sym s ≡ false → RowAdds cs ks s args r []
  of_none : same_sym r.sym s ≡ true → RowGives cs ks args r None → RowAdds cs ks s args r []
  of_one : (x : Radix) → same_sym r.sym s ≡ true → RowGives cs ks args r (Some x) → RowAdds cs ks s args r (x ∷ [])

-- what rows give, in their order
pub data RowsAdd (cs : List Clause) (ks : List (Option Constant)) (s : Sym) (args : List Term) : List Row → List Radix → Type 0 where
  no_rows : RowsAdd cs ks s args [] []
  and_row : (r : Row) (rs : List Row) (xs ys : List Radix) → RowAdds cs ks s args r xs → RowsAdd cs ks s args rs ys → RowsAdd cs ks s args (r ∷ rs) (xs ++ ys)
