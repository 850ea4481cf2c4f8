-- When a formula needn't be followed further.
use Rattle.std.proofs.Common.{◌≡◌, inl, inr, ℕ, Bool, true, false, List, [], refl, sym, ◌∙◌, subst}
use Rattle.std.specs.Prelude.{not}
use Rattle.std.proofs.Math.Bool.{beq}
use Rattle.mz_logic.specs.Formula as form
use Rattle.mz_logic.specs.Formula.{Formula}
use Rattle.mz_match.specs.declared.row.Head.{Head}
use Rattle.mz_match.specs.declared.row.Row.{Row}
use Rattle.mz_match.specs.Slots.{Assignment}
use Rattle.mz_match.specs.Literals.{match_literal, IsLiteral}
use Rattle.mz_match.specs.Table.{rows_of}
use Rattle.mz_match.specs.declared.table.Table.{Table}
use Rattle.mz_match.specs.RowsRefuted.{RowsRefute}
use Rattle.mz_match.specs.Fitting.{Covered}
use Rattle.mz_search.specs.Hopeless.{MayRefute}
use Rattle.mz_match.proofs.LiteralLemmas.{literal_finds}

true_not_false : true ≡ false → ⊥
true_not_false e = cc

pub same_flags : (a b : Bool) → beq a b ≡ true → a ≡ b
same_flags true true e = refl
same_flags true false e = cc
same_flags false true e = cc
same_flags false false e = refl

pub told_may : (rows : Head → List Row) (values : List ℕ) (us : List Formula) (s : Bool) (f : Formula) (es : List Assignment) (b : Bool) → b ≡ true → MayRefute rows values us s f es b
unfolding MayRefute
told_may rows values us s f es b t = λ n. absurd (true_not_false (sym t ∙ n))

pub told_may_not : (rows : Head → List Row) (values : List ℕ) (us : List Formula) (s r : Bool) (f g : Formula) (es : List Assignment) (b : Bool) → f ≡ form.Not g → r ≡ not s → MayRefute rows values us r g es b → MayRefute rows values us s f es b
unfolding MayRefute RowsRefute
told_may_not rows values us true r f g es b e q h = λ n a c k. h n a c (subst (λ (t : Bool). RowsRefute rows values us t a g) (sym q) (subst (λ (x : Formula). RowsRefute rows values us true a x) e k))
told_may_not rows values us false r f g es b e q h = λ n a c k. h n a c (subst (λ (t : Bool). RowsRefute rows values us t a g) (sym q) (subst (λ (x : Formula). RowsRefute rows values us false a x) e k))

pub told_may_left : (rows : Head → List Row) (values : List ℕ) (us : List Formula) (s : Bool) (f g h : Formula) (es : List Assignment) (b : Bool) → f ≡ form.And g h → s ≡ b → MayRefute rows values us s g es b → MayRefute rows values us s f es b
unfolding MayRefute RowsRefute
told_may_left rows values us true f g h es b e q m = λ n. absurd (true_not_false (q ∙ n))
told_may_left rows values us false f g h es b e q m = λ n a c k. m n a c (subst (λ (x : Formula). RowsRefute rows values us false a x) e k).0

pub told_may_right : (rows : Head → List Row) (values : List ℕ) (us : List Formula) (s : Bool) (f g h : Formula) (es : List Assignment) (b d : Bool) → f ≡ form.And g h → (s ≡ b → ⊥) → MayRefute rows values us s g es b → MayRefute rows values us s h es d → MayRefute rows values us s f es d
unfolding MayRefute RowsRefute
told_may_right rows values us true f g h es true d e q m k = absurd (q refl)
told_may_right rows values us true f g h es false d e q m k = λ n a c r. elim (subst (λ (x : Formula). RowsRefute rows values us true a x) e r) [ inl x ↦ m refl a c x | inr y ↦ k n a c y ]
told_may_right rows values us false f g h es b d e q m k = λ n a c r. k n a c (subst (λ (x : Formula). RowsRefute rows values us false a x) e r).1

pub ruleset may_rules = (told_may, told_may_not, told_may_left, told_may_right)

pub told_may_literal : (table : Table) (values : List ℕ) (us : List Formula) (s : Bool) (f : Formula) (es found : List Assignment) (b : Bool) → IsLiteral s f → found ≡ match_literal table values us s f es → (b ≡ false → found ≡ []) → MayRefute (rows_of table) values us s f es b
unfolding MayRefute
told_may_literal table values us s f es found b l e n = λ q a c k. subst (λ (ds : List Assignment). Covered ds a) (sym e ∙ n q) (literal_finds table values us s f a es l c k)

pub told_may_matched : (table : Table) (values : List ℕ) (us : List Formula) (s : Bool) (f : Formula) (es found : List Assignment) (empty : Bool) → IsLiteral s f → found ≡ match_literal table values us s f es → (empty ≡ true → found ≡ []) → MayRefute (rows_of table) values us s f es (not empty)
told_may_matched table values us s f es found true l e n = told_may_literal table values us s f es found false l e (λ q. n refl)
told_may_matched table values us s f es found false l e n = told_may (rows_of table) values us s f es true refl
